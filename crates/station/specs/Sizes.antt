-- How many bytes a board takes.
use Rattle.std.specs.Prelude.{ℕ, Some, None, Option}
use Rattle.calls.specs.declared.header.BoardKind.{BoardKind}
use Rattle.calls.specs.declared.header.BoardKind.TheVariants.{Drive, Switch}

abbrev pub version_bytes : Option BoardKind → ℕ
version_bytes (Some Drive) = 12
version_bytes (Some Switch) = 12
version_bytes None = 0

-- without the versions
abbrev pub board_bytes : Option BoardKind → ℕ
board_bytes (Some Drive) = 12592
board_bytes (Some Switch) = 12592
board_bytes None = 0
