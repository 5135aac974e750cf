-- Fair fetching along a list of calls, of any family: where the owner's accepted Fetches take from its lists "in a round robin fashion" and every other
-- accepted step spares them, an item is taken soon.
use Prim.Native.Nat.{ℕ, ◌+◌, ◌-◌, ◌*◌, ◌%◌, ◌≤◌, ◌<◌}
use mathlib.Core.Path.{◌≡◌, refl, sym, ap, ◌∙◌}
use mathlib.Core.Bool.{Bool, true, false, cond}
use mathlib.Core.Logic.{◌⊎◌, inl, inr}
use mathlib.Core.List.{List, [], ◌∷◌, ◌++◌, append-nil, append_assoc}
use native.Mathlib.Omega.{arith}
use native.Mathlib.Decide.{ℕ_discrete}
use lib.ListN.{length}
use lib.Dec.{eqb}
use borrow.Author.Tests.{eq-eqb, ne_eqb}
use Rattle.lists.proofs.Told.{cond_either}
use Rattle.task.specs.Refusals.{Said}
use Rattle.task.specs.Rows.{Acceptance}
use Rattle.task.specs.declared.Limits.{Limits}
use Rattle.task.specs.declared.Step.{Step}
use Rattle.task.specs.declared.Step.TheVariants.{Fetch, Start, Complete, Release}
use Rattle.machine.specs.Machine.{event_of, began, accepted_said, memory_after, begins}
use Rattle.machine.specs.Jobs.{Call, step_call, is_fetch, fetch_by, Engine, says, leaves, machine_of}
use Rattle.machine.specs.Fetches.{one_more}
use Rattle.machine.specs.Fetches as machine
use Rattle.machine.proofs.Jobs.{Laws, Still, refuses, looks, still-began, step-began, begin-began, Did, stays, steps, starts, did, fit-kept}
use Rattle.split_lists.proofs.RoundRobin.{Takes, Spares, Own, Nearer, stands-near, spares-none, spared-near, taken-near}
use Rattle.views.proofs.Recounts.{said-accepted}

one_more-lt : (b : Bool) (x y : ℕ) → x < y → one_more b x < one_more b y
one_more-lt true x y h = omega (arith, h)
one_more-lt false x y h = h

-- a call that moves nothing is no accepted Fetch
still-own : (owner : ℕ) (c : Call) (said : Said) → Still c said → cond (fetch_by owner c) (accepted_said said) false ≡ false
still-own owner c said (refuses _ n d) = cond_either (fetch_by owner c) false
still-own owner c said (looks side t _) = refl

-- how many of the calls are accepted Fetches by a worker, as long as the run lasts: an accepted begin ends it
pub record Counts {M : Type 0} (on : Engine M) (fetches : ℕ → List Call → M → ℕ) : Type 0 where
  pub none : (owner : ℕ) (m : M) → ◌≡◌ {A = ℕ} (fetches owner [] m) 0
  pub ended : (owner : ℕ) (c : Call) (cs : List Call) (m : M) → began (machine_of on) (event_of (machine_of on) c m) ≡ true
      → ◌≡◌ {A = ℕ} (fetches owner (c ∷ cs) m) 0
  pub first : (owner : ℕ) (c : Call) (cs : List Call) (m : M) → began (machine_of on) (event_of (machine_of on) c m) ≡ false
      → fetches owner (c ∷ cs) m ≡ one_more (cond (fetch_by owner c) (accepted_said (says on c m)) false) (fetches owner cs (leaves on c m))

pub fetches-count : {M : Type 0} (on : Engine M) → Counts on (machine.fetches (machine_of on))
unfolding machine.fetches
fetches-count on = record { none = λ owner m. refl; ended = λ owner c cs m e. rw e refl; first = λ owner c cs m e. rw e refl }

-- In any memory each owner has its lists. Of the calls cs from memory m on, one of the first `bound` accepted Fetches by the owner answers t and takes it
-- from the owner's list that the filler fills.
pub record Taken {M A : Type 0} (on : Engine M) (lists : M → ℕ → ℕ → List A) (fetches : ℕ → List Call → M → ℕ) (fetched : A → Said)
    (p k owner filler : ℕ) (t : A) (behind : List A) (bound : ℕ) (cs : List Call) (m : M) : Type 0 where
  pub earlier : List Call
  pub later : List Call
  pub limits : Limits
  pub split : cs ≡ earlier ++ (step_call limits p k owner Fetch ∷ later)
  pub same_run : begins (machine_of on) earlier m ≡ 0
  pub number : fetches owner earlier m < bound
  pub answered : says on (step_call limits p k owner Fetch) (memory_after (machine_of on) earlier m) ≡ fetched t
  pub added : List A
  pub first : lists (memory_after (machine_of on) earlier m) owner filler ≡ t ∷ (behind ++ added)
  pub taken : lists (leaves on (step_call limits p k owner Fetch) (memory_after (machine_of on) earlier m)) owner filler ≡ behind ++ added

-- and its pointer
module _ {M A : Type 0} (on : Engine M) (lists : M → ℕ → ℕ → List A) (pointer : M → ℕ → ℕ) where
  -- one of the owner's accepted Fetches
  abbrev owned : ℕ → Call → M → Bool
  owned owner c m = cond (fetch_by owner c) (accepted_said (says on c m)) false

  -- from m to m' the owner's lists and pointer are spared
  abbrev pub Spared : ℕ → M → M → Type 0
  Spared owner m m' = Spares (lists m owner) (lists m' owner) (pointer m owner) (pointer m' owner)

  -- what an owner's accepted Fetch takes: its pointer goes on, and it answers the item
  pub record Turn (fetched : A → Said) (p owner : ℕ) (m m' : M) (said : Said) : Type 0 where
    pub list : ℕ
    pub item : A
    pub takes : Takes p (lists m owner) (lists m' owner) (pointer m owner) list item
    pub moves : pointer m' owner ≡ (list + 1) % p
    pub answer : said ≡ fetched item

  -- what a family has to show of one accepted step
  pub record Turns (fetched : A → Said) (p k : ℕ) : Type 0 where
    pub own : (limits : Limits) (owner : ℕ) (m : M) → Acceptance (on.step_says limits p k owner Fetch m)
        → Turn fetched p owner m (on.step_leaves limits p k owner Fetch m) (on.step_says limits p k owner Fetch m)
    pub others : (limits : Limits) (i : ℕ) (m : M) → Acceptance (on.step_says limits p k i Fetch m) → (owner : ℕ) → ¬ (owner ≡ i)
        → Spared owner m (on.step_leaves limits p k i Fetch m)
    pub steps : (limits : Limits) (i : ℕ) (s : Step) (m : M) → is_fetch s ≡ false → Acceptance (on.step_says limits p k i s m) → (owner : ℕ)
        → Spared owner m (on.step_leaves limits p k i s m)

  module _ (fetches : ℕ → List Call → M → ℕ) (fetched : A → Said) (p k owner filler : ℕ) (t : A) (behind : List A) where
    abbrev Took : ℕ → List Call → M → Type 0
    Took = Taken on lists fetches fetched p k owner filler t behind

    module _ (counts : Counts on fetches) where
      -- what the calls after c take is taken from c on, c counting if it is one of the owner's accepted Fetches
      taken-later : (c : Call) (cs : List Call) (m : M) → began (machine_of on) (event_of (machine_of on) c m) ≡ false
          → (x n : ℕ) → one_more (owned owner c m) x ≡ n → Took x cs (leaves on c m) → Took n (c ∷ cs) m
      unfolding memory_after begins
      taken-later c cs m same x n e w =
          rw (sym e)
          (record {
            earlier = c ∷ w.earlier;
            later = w.later;
            limits = w.limits;
            split = ap (λ (ds : List Call). c ∷ ds) w.split;
            same_run = rw same w.same_run;
            number =
                rw (counts.first owner c w.earlier m same)
                (one_more-lt (owned owner c m) (fetches owner w.earlier (leaves on c m)) x w.number);
            answered = w.answered;
            added = w.added;
            first = w.first;
            taken = w.taken;
          })

      -- t waits in the owner's list, `added` being what has joined it since, and fewer than n takes can come before t's own: n accepted Fetches of the
      -- owner's are enough
      abbrev Enough : List Call → M → Type 0
      Enough cs m =
          (added : List A) (n : ℕ) → Nearer p (lists m owner) (pointer m owner) filler t (behind ++ added) n
          → n ≤ fetches owner cs m → Took n cs m

      -- a call that spares the owner's lists
      enough-spared : (c : Call) (cs : List Call) (m : M) → began (machine_of on) (event_of (machine_of on) c m) ≡ false → owned owner c m ≡ false
          → Spared owner m (leaves on c m) → Enough cs (leaves on c m) → Enough (c ∷ cs) m
      enough-spared c cs m same e h rest added n near enough =
          let (l, still) = spared-near h near in
          taken-later c cs m same n n (ap (λ (b : Bool). one_more b n) e)
          (rest (added ++ l) n (rw (sym (append_assoc behind added l)) still) (rw (counts.first owner c cs m same, e) at enough))

      module _ (turns : Turns fetched p k) where
        -- the owner's Fetch takes t, or brings it nearer
        module _ (limits : Limits) (cs : List Call) (m : M) (a : Acceptance (on.step_says limits p k owner Fetch m)) where
          abbrev this : Call
          this = step_call limits p k owner Fetch

          abbrev next : M
          next = on.step_leaves limits p k owner Fetch m

          turn : Turn fetched p owner m next (on.step_says limits p k owner Fetch m)
          turn = turns.own limits owner m a

          fetch-owned : owned owner this m ≡ true
          fetch-owned = rw (eq-eqb owner owner refl, said-accepted _ a) refl

          fetches-it : (added : List A) (n : ℕ) → 0 < n → Own (lists m owner) (lists next owner) filler turn.item t (behind ++ added)
              → Took n (this ∷ cs) m
          unfolding memory_after begins
          fetches-it added n h own =
              record {
                earlier = [];
                later = cs;
                limits = limits;
                split = refl;
                same_run = refl;
                number = rw (counts.none owner m) h;
                answered = turn.answer ∙ ap fetched own.item;
                added = added;
                first = own.first;
                taken = own.left;
              }

          enough-own : Enough cs (leaves on this m) → Enough (this ∷ cs) m
          enough-own rest added n near enough =
              go (taken-near p _ _ _ filler turn.list turn.item t (behind ++ added) turn.takes n near)
            where
              same : began (machine_of on) (event_of (machine_of on) this m) ≡ false
              same = step-began on limits p k m owner Fetch

              go : Own (lists m owner) (lists next owner) filler turn.item t (behind ++ added)
                  ⊎ Nearer p (lists next owner) ((turn.list + 1) % p) filler t (behind ++ added) (n - 1)
                  → Took n (this ∷ cs) m
              go (inl own) = fetches-it added n (omega (arith, near.fewer)) own
              go (inr nearer) =
                  taken-later this cs m same (n - 1) n (rw fetch-owned (omega (arith, near.fewer)))
                  (rest added (n - 1) (rw turn.moves nearer) (omega (arith, rw (counts.first owner this cs m same, fetch-owned) at enough)))

        -- any step
        enough-step : (limits : Limits) (i : ℕ) (s : Step) (cs : List Call) (m : M) → Acceptance (on.step_says limits p k i s m)
            → Enough cs (leaves on (step_call limits p k i s) m) → Enough (step_call limits p k i s ∷ cs) m
        enough-step limits i s cs m a = go s a (ℕ_discrete owner i)
          where
            spares : (s : Step) → cond (is_fetch s) (eqb i owner) false ≡ false → Spared owner m (on.step_leaves limits p k i s m)
                → Enough cs (leaves on (step_call limits p k i s) m) → Enough (step_call limits p k i s ∷ cs) m
            spares s e h = enough-spared (step_call limits p k i s) cs m (step-began on limits p k m i s) (rw e refl) h

            no-fetch : (s : Step) → is_fetch s ≡ false → Acceptance (on.step_says limits p k i s m)
                → Enough cs (leaves on (step_call limits p k i s) m) → Enough (step_call limits p k i s ∷ cs) m
            no-fetch s e a = spares s (rw e refl) (turns.steps limits i s m e a owner)

            go : (s : Step) → Acceptance (on.step_says limits p k i s m) → Dec (owner ≡ i)
                → Enough cs (leaves on (step_call limits p k i s) m) → Enough (step_call limits p k i s ∷ cs) m
            go Fetch a (yes e) = rw (sym e) (enough-own limits cs m (rw e a))
            go Fetch a (no n) = spares Fetch (ne_eqb i owner (λ e. n (sym e))) (turns.others limits i m a owner n)
            go Start a _ = no-fetch Start refl a
            go Complete a _ = no-fetch Complete refl a
            go Release a _ = no-fetch Release refl a

        enough-call : (c : Call) (cs : List Call) (m : M) → Did on p k m c → Enough cs (leaves on c m) → Enough (c ∷ cs) m
        enough-call c cs m (stays _ h e) =
            enough-spared c cs m (still-began on c (says on c m) h) (still-own owner c (says on c m) h)
            (rw e (spares-none (lists m owner) (pointer m owner)))
        enough-call _ cs m (steps limits i s a) = enough-step limits i s cs m a
        enough-call _ cs m (starts limits e) = λ _ added n near enough.
            absurd (omega (arith, near.fewer, enough, counts.ended owner _ cs m (begin-began on limits p k m e)))

        module _ {Fit : ℕ → ℕ → M → Type 0} (laws : Laws on Fit) where
          enough : (cs : List Call) (m : M) → Fit p k m → Enough cs m
          enough [] m l = λ added n near some. absurd (omega (arith, near.fewer, some, counts.none owner m))
          enough (c ∷ cs) m l = enough-call c cs m (did laws p k m l c) (enough cs (leaves on c m) (fit-kept laws p k m l c))

          -- t's list is less than p on from the pointer, so fewer than (length ahead + 1) * p takes can come before t's own
          pub taken-soon : filler < p → (m : M) → Fit p k m → (ahead : List A) → lists m owner filler ≡ ahead ++ (t ∷ behind)
              → (further : List Call) → (length ahead + 1) * p ≤ fetches owner further m → Taken on lists fetches fetched p k owner filler t behind ((length ahead + 1) * p) further m
          taken-soon fills m l ahead stands further many =
              enough further m l [] ((length ahead + 1) * p)
              (stands-near p (lists m owner) (pointer m owner) filler ahead t (behind ++ []) fills (rw (append-nil behind) stands))
              many
