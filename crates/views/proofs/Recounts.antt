-- What the lent words say of a run's events so far, in every family: the accepted word, the entries word and the record recount them, and the item that
-- a worker has in hand is the one its last accepted Fetch answered. A family shows what an accepted begin leaves (`Blank`) and an accepted step
-- (`Stepped`).
use Prim.Native.Nat.{ℕ, zero, suc, ◌*◌, ◌≤◌, ◌<◌}
use mathlib.Core.Path.{◌≡◌, refl, sym, ap, ◌∙◌}
use mathlib.Core.Bool.{Bool, true, false, cond, ◌&&◌}
use mathlib.Core.List.{List, [], ◌∷◌, ◌++◌, append-nil}
use native.Mathlib.Omega.{arith}
use native.Mathlib.Nat.{mul-le-mul}
use native.Mathlib.Decide.{ℕ_discrete}
use borrow.Author.Tests.{eq-eqb, ne_eqb}
use lib.ListN.{length, get_or}
use Rattle.lists.proofs.Appends.{each_append}
use Rattle.lists.proofs.Told.{and-false, cond_either}
use Rattle.task.specs.Entries.{Entry, entry_of, entries_next}
use Rattle.task.specs.Phases.{suits, leads_to}
use Rattle.task.specs.Refusals.{Said, refused, answered, accepted}
use Rattle.task.specs.Rows.{Acceptance}
use Rattle.task.specs.declared.Limits.{Limits}
use Rattle.task.specs.declared.Side.{Side}
use Rattle.task.specs.declared.Step.{Step}
use Rattle.task.specs.declared.Step.TheVariants.{Fetch, Start, Complete, Release}
use Rattle.machine.specs.Machine.{Event, accepted_said, accepted_of}
use Rattle.machine.specs.Jobs.{Call, step_call, lookup_call, is_step, is_fetch, is_completion, is_complete, fetch_by, worker_of, accepted_steps, accepted_completes, Engine, Run, memory_of, events_of}
use Rattle.machine.proofs.Jobs.{Laws, Still, refuses, looks, throughout}
use Rattle.memory.specs.Family.{Family}
use Rattle.memory.specs.Memory.{Mem}
use Rattle.plans.specs.Memory.{row_in, phase_in, held, entries_in, accepted_in}
use Rattle.views.specs.Recorded.{last_fetched, entry_by, entries_of}

-- a call that moves nothing is no accepted step and no accepted Fetch
still-uncounted : (kind : Call → Bool) → ((side : Side) (t : ℕ) → kind (lookup_call side t) ≡ false) → (c : Call) (said : Said) → Still c said
    → (kind c && accepted_said said) ≡ false
still-uncounted kind h c _ (refuses _ n d) = and-false (kind c) false (λ e. refl)
still-uncounted kind h _ said (looks side t _) = rw (h side t) refl

still-counted : (kind : Call → Bool) → ((side : Side) (t : ℕ) → kind (lookup_call side t) ≡ false) → (past : List (Event Call)) (c : Call) (said : Said)
    → Still c said → accepted_of kind (record { call = c; said = said } ∷ past) ≡ accepted_of kind past
unfolding accepted_of
still-counted kind h past c said q =
    ap (λ (b : Bool). cond b (suc (accepted_of kind past)) (accepted_of kind past)) (still-uncounted kind h c said q)

pub said-accepted : (said : Said) → Acceptance said → accepted_said said ≡ true
said-accepted (refused n d) a = absurd a
said-accepted (answered k vs) a = refl

-- Complete alone adds an entry, to the word and to the record
completes-next : (s : Step) (n : ℕ) → cond (is_completion s && true) (suc n) n ≡ entries_next s n
completes-next Fetch n = refl
completes-next Start n = refl
completes-next Complete n = refl
completes-next Release n = refl

entries-rise : (s : Step) (n : ℕ) → n ≤ entries_next s n
entries-rise Fetch n = omega arith
entries-rise Start n = omega arith
entries-rise Complete n = omega arith
entries-rise Release n = omega arith

abbrev pub entry_next : {A : Type 0} → Step → Entry A → List (Entry A)
entry_next s e = cond (is_completion s && true) (e ∷ []) []

-- the worker that an entry names
entry-worker : {A : Type 0} (d : Entry A) (b : Bool) (p : ℕ) (t : A) (i : ℕ) → i < p → (x : ℕ) → x < length (cond b (entry_of t i ∷ []) [])
    → (get_or (cond b (entry_of t i ∷ []) []) x d).worker < p
entry-worker d true p t i h zero l = h
entry-worker d true p t i h (suc x) l = absurd (omega (arith, l))
entry-worker d false p t i h x l = absurd (omega (arith, l))

-- of a family: how its record is read, the item that a Fetch answers, and what stands where there was none
module _ {F : Family} (record_in : Mem F → List (Entry F.Item)) (item_in : Said → F.Item → F.Item) (no_item : F.Item) where
  abbrev told : ℕ → List (Event Call) → F.Item
  told = last_fetched item_in no_item

  abbrev entries_told : List (Event Call) → List (Entry F.Item)
  entries_told = entries_of item_in no_item

  pub record Recounts (p : ℕ) (m : Mem F) (past : List (Event Call)) : Type 0 where
    pub steps : accepted_in m ≡ accepted_steps past
    pub entries : entries_in m ≡ accepted_completes past
    pub executed : record_in m ≡ entries_of item_in no_item past
    -- the words behind the recorded entries are begin's
    pub unused : (x : ℕ) → F.shape.entry_words * entries_in m ≤ x → ◌≡◌ {A = ℕ} (get_or m.executed x 0) 0
    pub workers : (d : Entry F.Item) (x : ℕ) → x < length (entries_of item_in no_item past) → (get_or (entries_of item_in no_item past) x d).worker < p
    pub hand : (j : ℕ) → ¬ (◌≡◌ {A = ℕ} (phase_in m j) 0) → held m j ≡ last_fetched item_in no_item j past

  -- nothing is recorded, and nobody holds an item
  pub record Blank (m : Mem F) : Type 0 where
    pub accepted : ◌≡◌ {A = ℕ} (accepted_in m) 0
    pub entries : ◌≡◌ {A = ℕ} (entries_in m) 0
    pub executed : record_in m ≡ []
    pub unused : (x : ℕ) → ◌≡◌ {A = ℕ} (get_or m.executed x 0) 0
    pub phases : (j : ℕ) → ◌≡◌ {A = ℕ} (phase_in m j) 0

  -- the item in worker i's hand after its step: Fetch answers it, and Start keeps it
  abbrev pub HandLeft : ℕ → Step → Said → Mem F → Mem F → Type 0
  HandLeft i Fetch said m m' = (a : F.Item) → held m' i ≡ item_in said a
  HandLeft i Start said m m' = held m' i ≡ held m i
  HandLeft i Complete said m m' = Unit {0}
  HandLeft i Release said m m' = Unit {0}

  -- what an accepted step of worker i, answered `said`, leaves in m' of the words of m
  pub record Stepped (p i : ℕ) (s : Step) (said : Said) (m m' : Mem F) : Type 0 where
    pub worker : i < p
    pub accepted : accepted_in m' ≡ suc (accepted_in m)
    pub entries : entries_in m' ≡ entries_next s (entries_in m)
    -- Complete's entry names what was in hand, and no step writes behind the entries
    pub executed : record_in m' ≡ record_in m ++ entry_next s (entry_of (held m i) i)
    pub unused : (x : ℕ) → F.shape.entry_words * entries_in m' ≤ x → get_or m'.executed x 0 ≡ get_or m.executed x 0
    pub phase : phase_in m i ≡ suits s
    pub leads : phase_in m' i ≡ leads_to s
    pub hand : HandLeft i s said m m'
    pub others : (j : ℕ) → ¬ (j ≡ i) → row_in m' j ≡ row_in m j

  blank-recounts : (p : ℕ) (m : Mem F) → Blank m → Recounts p m []
  unfolding accepted_of entries_of
  blank-recounts p m b =
      record {
        steps = b.accepted;
        entries = b.entries;
        executed = b.executed;
        unused = λ x h. b.unused x;
        workers = λ d x h. absurd (omega (arith, h));
        hand = λ j n. absurd (n (b.phases j));
      }

  -- a call that moves nothing is one more event
  still-fetched : (j : ℕ) (past : List (Event Call)) (c : Call) (said : Said) → Still c said → ((n d : ℕ) (a : F.Item) → item_in (refused n d) a ≡ a)
      → told j (record { call = c; said = said } ∷ past) ≡ told j past
  unfolding last_fetched
  still-fetched j past c _ (refuses _ n d) keeps = rw (keeps n d (told j past)) (cond_either (fetch_by j c) (told j past))
  still-fetched j past _ said (looks side t _) keeps = refl

  still-entries : (past : List (Event Call)) (c : Call) (said : Said) → Still c said
      → entries_told (record { call = c; said = said } ∷ past) ≡ entries_told past
  unfolding entries_of entry_by
  still-entries past c said q =
      ap (λ (b : Bool). entries_told past ++ cond b (entry_of (told (worker_of c) past) (worker_of c) ∷ []) [])
      (still-uncounted is_complete (λ side t. refl) c said q)
      ∙ append-nil (entries_told past)

  -- an answer that refuses names no item
  module _ (keeps : (n d : ℕ) (a : F.Item) → item_in (refused n d) a ≡ a) where
    still-recounts : (p : ℕ) (m : Mem F) (past : List (Event Call)) (c : Call) (said : Said) → Still c said → Recounts p m past
        → Recounts p m (record { call = c; said = said } ∷ past)
    still-recounts p m past c said q h =
        record {
          steps = h.steps ∙ sym (still-counted is_step (λ side t. refl) past c said q);
          entries = h.entries ∙ sym (still-counted is_complete (λ side t. refl) past c said q);
          executed = h.executed ∙ sym (still-entries past c said q);
          unused = h.unused;
          workers = rw (still-entries past c said q) h.workers;
          hand = λ j n. h.hand j n ∙ sym (still-fetched j past c said q keeps);
        }

  -- after an accepted step
  module _ (limits : Limits) (p k i : ℕ) (m m' : Mem F) (past : List (Event Call)) (said : Said) (h : Recounts p m past) where
    abbrev seen : Step → Event Call
    seen s = record { call = step_call limits p k i s; said = said }

    -- the item that Complete records is the one that the worker's last Fetch answered
    entry-same : (s : Step) → phase_in m i ≡ suits s → entry_next s (entry_of (held m i) i) ≡ entry_next s (entry_of (told i past) i)
    entry-same Fetch e = refl
    entry-same Start e = refl
    entry-same Complete e = ap (λ (t : F.Item). entry_of t i ∷ []) (h.hand i (λ z. omega (arith, e, z)))
    entry-same Release e = refl

    other-fetched : (s : Step) (j : ℕ) → ¬ (j ≡ i) → told j (seen s ∷ past) ≡ told j past
    unfolding last_fetched
    other-fetched s j n = rw (ne_eqb i j (λ e. n (sym e)), cond_either (is_fetch s) false) refl

    own-hand : (s : Step) → Stepped p i s said m m' → ¬ (◌≡◌ {A = ℕ} (phase_in m' i) 0) → held m' i ≡ told i (seen s ∷ past)
    unfolding last_fetched
    own-hand Fetch r n = rw (eq-eqb i i refl) (r.hand (told i past))
    own-hand Start r n = r.hand ∙ h.hand i (λ z. omega (arith, r.phase, z))
    own-hand Complete r n = absurd (n r.leads)
    own-hand Release r n = absurd (n r.leads)

    step-recounts : (s : Step) → Acceptance said → Stepped p i s said m m' → Recounts p m' (seen s ∷ past)
    unfolding accepted_of entries_of entry_by
    step-recounts s a r = record { steps = steps; entries = entries; executed = executed; unused = unused; workers = workers; hand = hand }
      where
        ok : accepted_said said ≡ true
        ok = said-accepted said a

        steps : accepted_in m' ≡ accepted_steps (seen s ∷ past)
        steps = r.accepted ∙ rw ok (ap suc h.steps)

        entries : entries_in m' ≡ accepted_completes (seen s ∷ past)
        entries = r.entries ∙ ap (entries_next s) h.entries ∙ rw ok (sym (completes-next s (accepted_completes past)))

        executed : record_in m' ≡ entries_told (seen s ∷ past)
        executed = r.executed ∙ rw (ok, h.executed, entry-same s r.phase) refl

        words-rise : F.shape.entry_words * entries_in m ≤ F.shape.entry_words * entries_in m'
        words-rise =
            mul-le-mul {n₁ = F.shape.entry_words} {m₁ = entries_in m} {n₂ = F.shape.entry_words} {m₂ = entries_in m'} (omega arith)
            (omega (arith, r.entries, entries-rise s (entries_in m)))

        unused : (x : ℕ) → F.shape.entry_words * entries_in m' ≤ x → ◌≡◌ {A = ℕ} (get_or m'.executed x 0) 0
        unused x l = r.unused x l ∙ h.unused x (omega (arith, l, words-rise))

        workers : (d : Entry F.Item) (x : ℕ) → x < length (entries_told (seen s ∷ past)) → (get_or (entries_told (seen s ∷ past)) x d).worker < p
        workers d =
            each_append (λ e. e.worker < p) d (entries_told past) (entry_by item_in no_item (seen s) past) (h.workers d)
            (entry-worker d (is_completion s && accepted_said said) p (told i past) i r.worker)

        hand : (j : ℕ) → ¬ (◌≡◌ {A = ℕ} (phase_in m' j) 0) → held m' j ≡ told j (seen s ∷ past)
        hand j n = go (ℕ_discrete j i)
          where
            go : Dec (j ≡ i) → held m' j ≡ told j (seen s ∷ past)
            go (yes e) = rw e (own-hand s r (rw e at n))
            go (no q) =
                let same : row_in m' j ≡ row_in m j = r.others j q in
                ap (λ (w : F.Row). (F.hand w).held) same ∙ h.hand j (λ z. n (ap (λ (w : F.Row). (F.hand w).phase) same ∙ z))
                ∙ sym (other-fetched s j q)

-- all that a family has to show of one call
pub record Recounting {F : Family} (on : Engine (Mem F)) (record_in : Mem F → List (Entry F.Item)) (item_in : Said → F.Item → F.Item)
    (no_item : F.Item) : Type 0 where
  pub names : (n d : ℕ) (a : F.Item) → item_in (refused n d) a ≡ a
  pub begun : (limits : Limits) (p k : ℕ) (m : Mem F) → on.begin_says limits p k m ≡ accepted → Blank record_in item_in no_item (on.begin_leaves limits p k m)
  pub stepped : (limits : Limits) (p k i : ℕ) (s : Step) (m : Mem F) → Acceptance (on.step_says limits p k i s m)
      → Stepped record_in item_in no_item p i s (on.step_says limits p k i s m) m (on.step_leaves limits p k i s m)

-- after every list of a run's calls
module _ {F : Family} {on : Engine (Mem F)} {Fit : ℕ → ℕ → Mem F → Type 0} (laws : Laws on Fit) {record_in : Mem F → List (Entry F.Item)}
    {item_in : Said → F.Item → F.Item} {no_item : F.Item} (one : Recounting on record_in item_in no_item) where
  pub recounted : (r : Run on) → Recounts record_in item_in no_item r.workers (memory_of on r) (events_of on r)
  recounted r =
      throughout laws r.workers r.slots (Recounts record_in item_in no_item r.workers)
      (λ limits m e. blank-recounts record_in item_in no_item r.workers _ (one.begun limits r.workers r.slots m e))
      (still-recounts record_in item_in no_item one.names r.workers)
      (λ limits m past i s a h. step-recounts record_in item_in no_item limits r.workers r.slots i m _ past _ h s a
      (one.stepped limits r.workers r.slots i s m a))
      r.limits r.lent r.accepts r.calls
