-- What the four weak steps share: how an admission is taken apart, R and the accepted word, the result, the row that goes back.
use Prim.Native.Nat.{ℕ, ◌+◌, ◌*◌, ◌≤◌, ◌<◌}
use mathlib.Core.Path.{◌≡◌, refl, sym, ◌∙◌, ap, subst}
use mathlib.Core.Bool.{Bool, true, false, cond}
use mathlib.Core.List.{List}
use native.Mathlib.Omega.{arith}
use lib.ListN.{get_or, set}
use lib.Seq.{set-get_or}
use lib.Dec.{leb, ltb}
use borrow.Author.Tests.{leb-true, ltb-true, le-leb, lt-leb, lt-ltb, le-ltb}
use Rattle.std.specs.Prelude.{Err, Ok}
use Rattle.task.specs.Refusals.{Answer}
use Rattle.task.specs.declared.refusal.Refusal.{Refusal}
use Rattle.task.specs.declared.refusal.Refusal.TheVariants.{Damaged}
use Rattle.task.specs.declared.refusal.Damaged as word
use Rattle.lists.proofs.Apart.{unequal}
use Rattle.task.specs.Types.{engine}
use Rattle.task.specs.Phases.{suits, next_phase}
use Rattle.task.specs.declared.Limits.{Limits}
use Rattle.task.specs.declared.Step.{Step}
use Rattle.weak_task.specs.Types.{idle}
use Rattle.weak_task.specs.declared.WeakRow.{WeakRow}
use Rattle.weak_task.specs.declared.WeakOutcome.{WeakOutcome}
use Rattle.memory.specs.Updates.{written}
use Rattle.plans.proofs.Headers.{headed-judged, fits-are}
use Rattle.weak_rules.specs.Memory.{Mem, tasks, edges, all_steps, row_in}
use Rattle.weak_rules.specs.Words.{phase_fits}
use Rattle.weak_rules.specs.Updates.{Update}
use Rattle.weak_rules.specs.Plans.{Plan, refuse, accept, checked, suited, with_count, counted, result_of, carried_out}
use Rattle.weak_rules.specs.Steps.{rule_of, step_plan, step}
use Rattle.weak_admission.specs.Admission.{sizes_of, Judges, Measured, Knows, entered, Allows, Admits, Enters, row_after, rows_after, WeakAdmitted, WeakStepped}
use Rattle.weak_admission.specs.Count.{Counted, count_of}
use Rattle.weak_admission.specs.declared.WeakSizes.{WeakSizes}

-- what `admit` has told of the worker with this row, after what was judged
module _ (row : WeakRow) (s : Step) where
  pub admission-entered : (j : Answer) (r : WeakAdmitted) → Admits row s j r → (row' : WeakRow) → r ≡ Ok row' → (row.phase ≡ suits s) × (row' ≡ entered s row)
  admission-entered (Err why) r told row' v = unequal cc
  admission-entered (Ok u) r told row' v = (subst (Allows row s) v told).1

module _ (p k i : ℕ) (sizes : WeakSizes) (row : WeakRow) (s : Step) where
  pub admission-measured : (j : Answer) → Knows p k i sizes j → (r : WeakAdmitted) → Admits row s j r → (row' : WeakRow) → r ≡ Ok row' → Measured p k i sizes
  admission-measured (Err why) known r told row' v = unequal cc
  admission-measured (Ok u) known r told row' v = known

  module _ (limits : Limits) (m : Mem) (e : sizes_of m ≡ sizes) (h : row_in m i ≡ row) where
    module _ (judges : Judges limits p k i sizes (Ok tt)) where
      reached : step_plan limits p k i s m ≡ checked (phase_fits row.phase) (suited (next_phase row.phase s) row.phase (rule_of s p k i m))
      unfolding step_plan
      reached =
          headed-judged limits p k i s m (rule_of s p k i m) (judges.0 m e).0 (judges.0 m e).1 judges.1
          ∙ ap (λ (x : WeakRow). checked (phase_fits x.phase) (suited (next_phase x.phase s) x.phase (rule_of s p k i m))) h

      allowed-enters : (row' : WeakRow) → Allows row s (Ok row') → Enters limits p k i s m row'
      allowed-enters row' (a, (q, w)) =
          record {
            follows = reached ∙ a (rule_of s p k i m);
            fits = fits-are limits p k m (judges.0 m e).0 (judges.0 m e).1;
            worker = judges.1;
            phase = ap (λ (x : WeakRow). x.phase) h ∙ q;
            leads = rw h w;
          }

    pub admission-refused : (j : Answer) → Judges limits p k i sizes j → (r : WeakAdmitted) → Admits row s j r
        → (why : Refusal) → r ≡ Err why → step_plan limits p k i s m ≡ refuse why
    admission-refused (Err why') judges r told why v = judges s m e ∙ same (sym told ∙ v)
      where
        same : ◌≡◌ {A = WeakAdmitted} (Err why') (Err why) → ◌≡◌ {A = Plan} (refuse why') (refuse why)
        same q = cc
    admission-refused (Ok u) judges r told why v = reached judges ∙ subst (Allows row s) v told (rule_of s p k i m)

    pub admission-enters : (j : Answer) → Judges limits p k i sizes j → (r : WeakAdmitted) → Admits row s j r
        → (row' : WeakRow) → r ≡ Ok row' → Enters limits p k i s m row'
    admission-enters (Err why) judges r told row' v = unequal cc
    admission-enters (Ok u) judges r told row' v = allowed-enters judges row' (subst (Allows row s) v told)

-- R and the accepted word of a job of n tasks and e edges, as `count_of` finds them
module _ (n e : ℕ) (run : List ℕ) where
  pub roots-damaged : n < get_or run 2 0 → Err (record {}) ≡ count_of n e run
  unfolding count_of
  roots-damaged h = rw (lt-leb (get_or run 2 0) n h) refl

  module _ (h : get_or run 2 0 ≤ n) where
    pub word-damaged : 4 * e + 3 * get_or run 2 0 ≤ get_or run 1 0 → Err (record {}) ≡ count_of n e run
    unfolding count_of
    word-damaged b = rw (le-leb (get_or run 2 0) n h, le-ltb (get_or run 1 0) (4 * e + 3 * get_or run 2 0) b) refl

    pub word_counts : get_or run 1 0 < 4 * e + 3 * get_or run 2 0 → Ok (get_or run 1 0) ≡ count_of n e run
    unfolding count_of
    word_counts b = rw (le-leb (get_or run 2 0) n h, lt-ltb (get_or run 1 0) (4 * e + 3 * get_or run 2 0) b) refl

  -- what a word that counts is
  pub counts-are : (a : ℕ) → count_of n e run ≡ Ok a → (a ≡ get_or run 1 0) × ((get_or run 2 0 ≤ n) × (a < 4 * e + 3 * get_or run 2 0))
  unfolding count_of
  counts-are a v = go (leb (get_or run 2 0) n) (ltb (get_or run 1 0) (4 * e + 3 * get_or run 2 0)) refl refl v
    where
      go : (b c : Bool) → leb (get_or run 2 0) n ≡ b → ltb (get_or run 1 0) (4 * e + 3 * get_or run 2 0) ≡ c
          → cond {A = Counted} b (cond c (Ok (get_or run 1 0)) (Err (record {}))) (Err (record {})) ≡ Ok a → (a ≡ get_or run 1 0) × ((get_or run 2 0 ≤ n) × (a < 4 * e + 3 * get_or run 2 0))
      go true true hb hc w = (cc, (leb-true (get_or run 2 0) n hb, omega (arith, ltb-true (get_or run 1 0) (4 * e + 3 * get_or run 2 0) hc, word w)))
        where
          word : ◌≡◌ {A = Counted} (Ok (get_or run 1 0)) (Ok a) → a ≡ get_or run 1 0
          word q = cc
      go true false hb hc w = unequal cc
      go false c hb hc w = unequal cc

  -- "accepted word 4E+3R or more" is damaged, so what joins the word is small
  pub few-steps : n ≤ engine.tasks → e ≤ engine.edges → (a : ℕ) → count_of n e run ≡ Ok a → a < 35840
  few-steps h l a v = omega (arith, (counts-are a v).1.0, (counts-are a v).1.1)

-- the lengths are those of weights and predecessors
pub extent-of : (sizes : WeakSizes) (m : Mem) → sizes_of m ≡ sizes → (tasks m ≡ sizes.weights) × (edges m ≡ sizes.preds)
extent-of sizes m e = rw (← e) (refl, refl)

-- so a step's last two checks are judged
module _ (n e : ℕ) (m : Mem) (h : (tasks m ≡ n) × (edges m ≡ e)) (o : WeakOutcome) (us : List Update) where
  pub count-refused : (d : word.Damaged) → count_of n e m.run ≡ Err d → counted m o us ≡ refuse Damaged
  unfolding counted count_of all_steps
  count-refused d v = rw (h.0, h.1) (go (leb (get_or m.run 2 0) n) (ltb (get_or m.run 1 0) (4 * e + 3 * get_or m.run 2 0)) v)
    where
      go : (b c : Bool) → cond {A = Counted} b (cond c (Ok (get_or m.run 1 0)) (Err (record {}))) (Err (record {})) ≡ Err d
          → checked b (checked c (accept o (with_count m us))) ≡ refuse Damaged
      go true true w = unequal cc
      go true false w = refl
      go false c w = refl

  pub count-accepted : (a : ℕ) → count_of n e m.run ≡ Ok a → counted m o us ≡ accept o (with_count m us)
  unfolding counted all_steps
  count-accepted a v =
      let (q, (r, l)) = counts-are n e m.run a v in
      rw (h.0, h.1, le-leb (get_or m.run 2 0) n r, lt-ltb (get_or m.run 1 0) (4 * e + 3 * get_or m.run 2 0) (rw (← q) l)) refl

-- a step's end, by the plan that the step has come to
module _ (limits : Limits) (p k i : ℕ) (s : Step) (m : Mem) where
  pub refused-result : (why : Refusal) → step_plan limits p k i s m ≡ refuse why → result_of (Err why) m ≡ step limits p k i s m
  unfolding step carried_out
  refused-result why e = rw e refl

  pub accepted-result : (o : WeakOutcome) (us : List Update) → step_plan limits p k i s m ≡ accept o us
      → result_of (Ok o) (written us m) ≡ step limits p k i s m
  unfolding step carried_out
  accepted-result o us e = rw e refl

  -- the same by the rule of an admitted step
  module _ (row : WeakRow) (enters : Enters limits p k i s m row) where
    pub rule-refused : (why : Refusal) → rule_of s p k i m ≡ refuse why → result_of (Err why) m ≡ step limits p k i s m
    rule-refused why e = refused-result why (enters.follows ∙ e)

    pub rule-accepted : (o : WeakOutcome) (us : List Update) → rule_of s p k i m ≡ accept o us
        → result_of (Ok o) (written us m) ≡ step limits p k i s m
    rule-accepted o us e = accepted-result o us (enters.follows ∙ e)

-- the row that is there, stored back, changes nothing, also where i is no worker
pub row-stored : (rows : List WeakRow) (i : ℕ) (row : WeakRow) → row ≡ get_or rows i idle → (a : WeakStepped) → set rows i (row_after row a) ≡ rows_after rows i a
row-stored rows i row h (Err why) = rw h (set-get_or rows i idle)
row-stored rows i row h (Ok (o, row')) = refl
