use Rattle.std.proofs.Common.{rules}
use Rattle.script.proofs.read.arguments.Goals as goal

pub returns-in_err-number-in-Admit : goal.returns-in_err-number-in-Admit
returns-in_err-number-in-Admit c = rw c.in-Admit.is (search rules)

pub returns-in_err-word-in-Admit : goal.returns-in_err-word-in-Admit
returns-in_err-word-in-Admit c = rw c.in-Admit.is (search rules)

pub returns-in_err-number-in-Revoke : goal.returns-in_err-number-in-Revoke
returns-in_err-number-in-Revoke c = rw c.in-Revoke.is (search rules)

pub returns-in_err-number-in-Begin : goal.returns-in_err-number-in-Begin
returns-in_err-number-in-Begin c = rw c.in-Begin.is (search rules)

pub returns-in_err-number-in-Begin-2 : goal.returns-in_err-number-in-Begin-2
returns-in_err-number-in-Begin-2 c = rw c.in-Begin.is (search rules)

pub returns-in_err-word-in-Begin : goal.returns-in_err-word-in-Begin
returns-in_err-word-in-Begin c = rw c.in-Begin.is (search rules)

pub returns-in_err-number-in-Read : goal.returns-in_err-number-in-Read
returns-in_err-number-in-Read c = rw c.in-Read.is (search rules)

pub returns-in_err-number-in-Read-2 : goal.returns-in_err-number-in-Read-2
returns-in_err-number-in-Read-2 c = rw c.in-Read.is (search rules)

pub returns-in_err-number-in-Read-3 : goal.returns-in_err-number-in-Read-3
returns-in_err-number-in-Read-3 c = rw c.in-Read.is (search rules)

pub returns-in_err-number-in-Write : goal.returns-in_err-number-in-Write
returns-in_err-number-in-Write c = rw c.in-Write.is (search rules)

pub returns-in_err-number-in-Write-2 : goal.returns-in_err-number-in-Write-2
returns-in_err-number-in-Write-2 c = rw c.in-Write.is (search rules)

pub returns-in_err-number-in-Write-3 : goal.returns-in_err-number-in-Write-3
returns-in_err-number-in-Write-3 c = rw c.in-Write.is (search rules)

pub returns-in_err-number-in-Write-4 : goal.returns-in_err-number-in-Write-4
returns-in_err-number-in-Write-4 c = rw c.in-Write.is (search rules)

pub returns-in_err-number-in-Commit : goal.returns-in_err-number-in-Commit
returns-in_err-number-in-Commit c = rw c.in-Commit.is (search rules)

pub returns-in_err-number-in-Commit-2 : goal.returns-in_err-number-in-Commit-2
returns-in_err-number-in-Commit-2 c = rw c.in-Commit.is (search rules)

pub returns-in_err-number-in-Abandon : goal.returns-in_err-number-in-Abandon
returns-in_err-number-in-Abandon c = rw c.in-Abandon.is (search rules)

pub returns-in_err-number-in-Abandon-2 : goal.returns-in_err-number-in-Abandon-2
returns-in_err-number-in-Abandon-2 c = rw c.in-Abandon.is (search rules)

pub returns-in_err-number-in-Show : goal.returns-in_err-number-in-Show
returns-in_err-number-in-Show c = rw c.in-Show.is (search rules)

pub returns-in_ok-word-in-Admit : goal.returns-in_ok-word-in-Admit
returns-in_ok-word-in-Admit c = rw c.in-Admit.is (search rules)

pub returns-in_ok-number-in-Revoke : goal.returns-in_ok-number-in-Revoke
returns-in_ok-number-in-Revoke c = rw c.in-Revoke.is (search rules)

pub returns-in_ok-word-in-Begin : goal.returns-in_ok-word-in-Begin
returns-in_ok-word-in-Begin c = rw c.in-Begin.is (search rules)

pub returns-in_ok-number-in-Read-3 : goal.returns-in_ok-number-in-Read-3
returns-in_ok-number-in-Read-3 c = rw c.in-Read.is (search rules)

pub returns-in_ok-number-in-Write-4 : goal.returns-in_ok-number-in-Write-4
returns-in_ok-number-in-Write-4 c = rw c.in-Write.is (search rules)

pub returns-in_ok-number-in-Commit-2 : goal.returns-in_ok-number-in-Commit-2
returns-in_ok-number-in-Commit-2 c = rw c.in-Commit.is (search rules)

pub returns-in_ok-number-in-Abandon-2 : goal.returns-in_ok-number-in-Abandon-2
returns-in_ok-number-in-Abandon-2 c = rw c.in-Abandon.is (search rules)

pub returns-in_ok-number-in-Show : goal.returns-in_ok-number-in-Show
returns-in_ok-number-in-Show c = rw c.in-Show.is (search rules)
