-- A step reads and checks everything, and then it writes: a plan says which. O is what an accepted step answers, U an update.
use Rattle.task.specs.declared.refusal.Refusal.{Refusal}
use Rattle.task.specs.declared.refusal.Refusal.TheVariants.{Damaged, WrongPhase}
use Rattle.std.specs.Prelude.{ℕ, Bool, cond, List, Option, Some, None}

pub data Plan (O U : Type 0) : Type 0 where
  refuse : Refusal → Plan O U
  accept : O → List U → Plan O U

module _ {O U : Type 0} where
  -- refused where the test fails
  abbrev pub require : Bool → Refusal → Plan O U → Plan O U
  require test why rest = cond test rest (refuse why)

  -- refused where the test holds
  abbrev pub refuse_if : Bool → Refusal → Plan O U → Plan O U
  refuse_if test why rest = cond test (refuse why) rest

  -- a word that is read must be in its range, else it is "a damaged word": 8, detail 0
  abbrev pub checked : Bool → Plan O U → Plan O U
  checked fits rest = require fits Damaged rest

  -- 9: "step doesn't suit the phase"; the detail is the phase. The phase that a step leads to stands in the row that it writes.
  abbrev pub suited : Option ℕ → ℕ → Plan O U → Plan O U
  suited None phase rest = refuse (WrongPhase phase)
  suited (Some q) phase rest = rest

-- a call's answer, and the memory M that it leaves
pub record Result (M A : Type 0) : Type 0 where
  pub answer : A
  pub memory : M

abbrev pub result_of : {M A : Type 0} → A → M → Result M A
result_of a m = record { answer = a; memory = m }
