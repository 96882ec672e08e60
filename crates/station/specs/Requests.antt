-- What a request stands for.
use Rattle.std.specs.Prelude.{ℕ, [], ◌∷◌, Ok, Result, slice_get}
use Rattle.std.specs.Option.{ok_or}
use Rattle.calls.specs.declared.call.Class.{Class}
use Rattle.calls.specs.declared.call.Class.TheVariants.{Member, Guest}
use Rattle.calls.specs.declared.call.Mode.{Mode}
use Rattle.calls.specs.declared.call.Mode.TheVariants.{Reader, Update}
use Rattle.calls.specs.declared.call.Call.{Call}
use Rattle.calls.specs.declared.call.Call.TheVariants as call
use Rattle.calls.specs.declared.fault.Fault.{Fault}
use Rattle.calls.specs.declared.fault.Fault.TheVariants.{WrongPart}
use Rattle.script.specs.Reading.{then}
use Rattle.script.specs.declared.words.Op.{Op}
use Rattle.script.specs.declared.words.Op.TheVariants.{Admit, Revoke, Begin, Read, Write, Commit, Abandon, Show}
use Rattle.station.specs.declared.request.Request.{Request}

-- the calls are numbered from 0; field 0 is wrong where it numbers none
abbrev pub op_of : ℕ → Result Op Fault
op_of n = ok_or (slice_get (Admit ∷ Revoke ∷ Begin ∷ Read ∷ Write ∷ Commit ∷ Abandon ∷ Show ∷ []) n) (WrongPart 0)

-- so are the classes and the modes; field 4 is wrong where it should number one and does not
abbrev pub class_of : ℕ → Result Class Fault
class_of n = ok_or (slice_get (Member ∷ Guest ∷ []) n) (WrongPart 4)

abbrev pub mode_of : ℕ → Result Mode Fault
mode_of n = ok_or (slice_get (Reader ∷ Update ∷ []) n) (WrongPart 4)

-- what the request says of a call
abbrev pub call_as : Request → Op → Result Call Fault
call_as q Admit = then (class_of q.value) (λ class. Ok (call.Admit q.seat class))
call_as q Revoke = Ok (call.Revoke q.seat)
call_as q Begin = then (mode_of q.value) (λ mode. Ok (call.Begin q.seat q.pass mode))
call_as q Read = Ok (call.Read q.seat q.pass q.item)
call_as q Write = Ok (call.Write q.seat q.pass q.item q.value)
call_as q Commit = Ok (call.Commit q.seat q.pass)
call_as q Abandon = Ok (call.Abandon q.seat q.pass)
call_as q Show = Ok (call.Show q.item)

abbrev pub call_of : Request → Result Call Fault
call_of q = then (op_of q.op) (call_as q)
