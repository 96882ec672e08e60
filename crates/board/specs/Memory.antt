-- What changes in the version memory.
use Rattle.std.specs.Prelude.{◌≡◌, ◌≢◌, ℕ, ◌<◌, ◌≤◌, List, length}
use Rattle.calls.specs.declared.write.Write.{Write}
use Rattle.history.specs.State.{Setup, State, Version, Transaction as Running, at_rest}
use Rattle.history.specs.Steps.{listed, stored, down_to_anchor, insert_version}
use Rattle.versions.specs.Slots.{padded}
use Rattle.board.specs.Contents.{Contents, with_versions}
use Rattle.board.specs.Lists.{slots_of}
use Rattle.board.specs.Holding.{rest_of}

-- nothing changes but the slots of one item: where there is room, they have the new version and none below the anchor
pub record StoredAt {R : Type 0} (before after : Contents R) (item : ℕ) (new : Version) (least : ℕ) : Type 0 where
  pub only : after ≡ with_versions before after.versions
  pub here : length (insert_version new (down_to_anchor least (slots_of before.versions item))) ≤ 8
      → slots_of after.versions item ≡ padded 8 (rest_of before) (insert_version new (down_to_anchor least (slots_of before.versions item)))
  pub elsewhere : (other : ℕ) → (other ≢ item) → slots_of after.versions other ≡ slots_of before.versions other

-- of each item that stands in the list of writes, the version that the grant stores is in its slots; all others are as the state has them
abbrev pub StoredAll : Setup → State → Running → ℕ → List Write → List Version → Type 0
StoredAll b s x place writes memory = (item : ℕ) → item < b.items → slots_of memory item ≡ padded 8 (at_rest b) (stored b s x place item (listed item writes))
