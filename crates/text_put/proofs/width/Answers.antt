use mathlib.Core.Path.{sym, ap}
use native.Mathlib.Omega.{arith}
use lib.ListN.{length}
use Rattle.layout.proofs.Digits.{digits-count}
use Rattle.text_put.proofs.Laws.{one-digit}
use Rattle.text_put.proofs.width.Goals as goal

pub returns-then-number-lt10 : goal.returns-then-number-lt10
returns-then-number-lt10 c = (sym (ap length (one-digit _ (omega arith))), omega arith)

pub returns-then-number-lt100 : goal.returns-then-number-lt100
returns-then-number-lt100 c = (sym (digits-count 1 _ (omega arith) (omega arith)), omega arith)

pub returns-then-number-lt1000 : goal.returns-then-number-lt1000
returns-then-number-lt1000 c = (sym (digits-count 2 _ (omega arith) (omega arith)), omega arith)

pub returns-then-number-lt10000 : goal.returns-then-number-lt10000
returns-then-number-lt10000 c = (sym (digits-count 3 _ (omega arith) (omega arith)), omega arith)

pub returns-then-number-lt100000 : goal.returns-then-number-lt100000
returns-then-number-lt100000 c = (sym (digits-count 4 _ (omega arith) (omega arith)), omega arith)

pub returns-then-number-lt1000000 : goal.returns-then-number-lt1000000
returns-then-number-lt1000000 c = (sym (digits-count 5 _ (omega arith) (omega arith)), omega arith)

pub returns-then-number-lt10000000 : goal.returns-then-number-lt10000000
returns-then-number-lt10000000 c = (sym (digits-count 6 _ (omega arith) (omega arith)), omega arith)

pub returns-then-number-lt100000000 : goal.returns-then-number-lt100000000
returns-then-number-lt100000000 c = (sym (digits-count 7 _ (omega arith) (omega arith)), omega arith)

pub returns-then-number-lt1000000000 : goal.returns-then-number-lt1000000000
returns-then-number-lt1000000000 c = (sym (digits-count 8 _ (omega arith) (omega arith)), omega arith)

pub returns : goal.returns
returns c = (sym (digits-count 9 _ (omega arith) (omega arith)), omega arith)
