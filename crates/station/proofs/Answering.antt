-- Requests that are answered one after the other.
use Rattle.std.proofs.Common.{◌≡◌, ℕ, ◌+◌, ◌<◌, ◌≤◌, List, [], ◌∷◌, ◌++◌, length, get_or, take, drop, set, Ok, Err, Option, Result, sym, refl, ap, ◌∙◌, subst, arith}
use Rattle.std.proofs.lemmas.List.{append_assoc, append-nil, take_more_set, take_all, drop_more, drop_all}
use Rattle.calls.specs.declared.call.Call.{Call}
use Rattle.calls.specs.declared.fault.Fault.{Fault}
use Rattle.calls.specs.declared.reply.Reply.{Reply}
use Rattle.rules.specs.declared.findings.Findings.{Findings}
use Rattle.history.specs.State.{State}
use Rattle.history.specs.Steps.{Answer as Reported, step}
use Rattle.history.specs.Log.{History, Leads}
use Rattle.history.proofs.PromiseKept.{last_step}
use Rattle.board.specs.Contents.{Contents, setup_of}
use Rattle.board.specs.Holding.{Holds, KeepsThePromise}
use Rattle.station.specs.declared.answer.Answer.{Answer}
use Rattle.station.specs.declared.request.Request.{Request}
use Rattle.player.specs.Lines.{told}
use Rattle.station.specs.Answers.{answer_of}
use Rattle.station.specs.Requests.{call_of}
use Rattle.station.specs.Playing.{outcome_of, left_by, answers_from, Told, AnswersAll}
use Rattle.station.proofs.Leading.{same_state}

module _ {R : Type 0} (answers : R → Findings → Option ℕ) where
  -- the request stands for a call, and the board was asked
  pub told_call : (before after : Contents R) (q : Request) (o : Result Reply Fault) (call : Call) (a : Reported) → call_of q ≡ Ok call → KeepsThePromise answers before after call a → o ≡ told a
      → Told answers before after q o
  told_call before after q o call a is keeps tells h s leads k =
      let b = setup_of answers before in
      let played = keeps h s leads k in
      let last = last_step b h call a played.leads refl in
      let same : last.0 ≡ s = same_state b last.1 leads in
      let reported : a ≡ (step b call s).answer = last.2 ∙ ap (λ z. (step b call z).answer) same in
      let left : played.state_left ≡ left_by b s (call_of q) = last.3 ∙ ap (λ z. (step b call z).after) same ∙ sym (ap (left_by b s) is) in
      record {
        same_setup = played.same_setup;
        told_as = tells ∙ ap told reported ∙ sym (ap (outcome_of b s) is);
        made = _;
        leads = subst (Leads b _) left played.leads;
        holds = subst (Holds after) left played.holds;
      }

  -- it stands for none
  pub told_fault : (board : Contents R) (q : Request) (o : Result Reply Fault) (fault : Fault) → call_of q ≡ Err fault → o ≡ Err fault → Told answers board board q o
  told_fault board q o fault is tells h s leads k =
      let b = setup_of answers board in
      let left : s ≡ left_by b s (call_of q) = sym (ap (left_by b s) is) in
      record {
        same_setup = refl;
        told_as = tells ∙ sym (ap (outcome_of b s) is);
        made = h;
        leads = subst (Leads b h) left leads;
        holds = subst (Holds board) left k;
      }

  -- the first i requests are answered, and the answers to the others complete these
  pub record Underway (before now : Contents R) (qs : List Request) (i : ℕ) (given : List Answer) (s : State) : Type 0 where
    pub same_setup : setup_of answers now ≡ setup_of answers before
    pub made : History
    pub left : State
    pub leads : Leads (setup_of answers before) made left
    pub holds : Holds now left
    pub completed : take i given ++ answers_from (setup_of answers before) left (drop i qs) ≡ answers_from (setup_of answers before) s qs

  abbrev pub Reached : Contents R → Contents R → List Request → ℕ → List Answer → Type 0
  Reached before now qs i given = (h : History) (s : State) → Leads (setup_of answers before) h s → Holds before s → Underway before now qs i given s

  pub reached_none : (board : Contents R) (qs : List Request) (given : List Answer) → Reached board board qs 0 given
  reached_none board qs given h s leads k = record { same_setup = refl; made = h; left = s; leads = leads; holds = k; completed = refl }

  pub reached_more : (before now after : Contents R) (qs : List Request) (i : ℕ) (d : Request) (given : List Answer) (o : Result Reply Fault) (a : Answer) → length qs ≡ length given → i < length qs
      → Reached before now qs i given → Told answers now after (get_or qs i d) o → a ≡ answer_of o → Reached before after qs (i + 1) (set given i a)
  reached_more before now after qs i d given o a even lt reached told_of is h s leads k =
      let b = setup_of answers before in
      let q = get_or qs i d in
      let u = reached h s leads k in
      let x = told_of u.made u.left (subst (λ c. Leads c u.made u.left) (sym u.same_setup) u.leads) u.holds in
      let left = left_by b u.left (call_of q) in
      let tells : a ≡ answer_of (outcome_of b u.left (call_of q)) = is ∙ ap answer_of (x.told_as ∙ ap (λ c. outcome_of c u.left (call_of q)) u.same_setup) in
      let front : take (i + 1) (set given i a) ≡ take i given ++ a ∷ [] = take_more_set given i a (omega (arith, even, lt)) in
      record {
        same_setup = x.same_setup ∙ u.same_setup;
        made = x.made;
        left = left;
        leads = subst (λ c. Leads c x.made (left_by c u.left (call_of q))) u.same_setup x.leads;
        holds = subst (λ c. Holds after (left_by c u.left (call_of q))) u.same_setup x.holds;
        completed = ap (λ l. l ++ answers_from b left (drop (i + 1) qs)) front
            ∙ append_assoc (take i given) (a ∷ []) (answers_from b left (drop (i + 1) qs))
            ∙ ap (λ z. take i given ++ z ∷ answers_from b left (drop (i + 1) qs)) tells
            ∙ sym (ap (λ l. take i given ++ answers_from b u.left l) (drop_more qs i d lt))
            ∙ u.completed;
      }

  pub reached_all : (before now : Contents R) (qs : List Request) (i : ℕ) (given : List Answer) → length qs ≡ length given → length qs ≤ i → Reached before now qs i given → AnswersAll answers before qs given
  reached_all before now qs i given even end reached h s leads k =
      let b = setup_of answers before in
      let u = reached h s leads k in
      sym (append-nil given)
      ∙ sym (ap (λ l. l ++ []) (take_all i given (omega (arith, even, end))))
      ∙ sym (ap (λ l. take i given ++ answers_from b u.left l) (drop_all i qs end))
      ∙ u.completed
