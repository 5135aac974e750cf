-- What is asked of a form, and the two lists of owners: all P workers, and those of them that are open.
use Prim.Native.Nat.{ℕ, zero, suc, ◌+◌, ◌%◌, ◌<◌}
use mathlib.Core.Path.{◌≡◌, refl, sym, ap, ◌∙◌, subst}
use mathlib.Core.Bool.{Bool, true, false, ◌&&◌}
use mathlib.Core.Logic.{◌↔◌}
use mathlib.Core.List.{List, [], ◌∷◌}
use native.Mathlib.Omega.{arith}
use native.Mathlib.Decide.{ℕ_discrete}
use native.Mathlib.Nat.{mod-lt}
use lib.ListN.{length, get_or}
use Rattle.lists.specs.Lists.{occ, all_of}
use Rattle.lists.specs.Circles.{around}
use Rattle.lists.proofs.Apart.{true-and-false}
use Rattle.lists.proofs.Circles.{length-around, around-at, mod-reached}
use Rattle.lists.proofs.Told.{Told, told-true, told-false, told}
use Rattle.lists.proofs.Occurrences.{occ-nil, occ-cons, occ-miss, occ-at, at-occ}
use Rattle.choice.specs.Least.{Least, Listed, least}
use Rattle.choice.specs.Form.{chosen, each, Taken, Offered, Form}
use Rattle.choice.proofs.Least.{least-is, all_listed}

-- a form of P workers is sane: its tests tell its conditions, its lists are its candidates, and where nothing is damaged there is one
pub record Chooses (p : ℕ) (f : Form) : Type 0 where
  pub told : Told f.fits (¬ f.Damaged) f.Damaged
  pub told_at : (q : ℕ) → Told (f.fits_at q) (¬ (f.DamagedAt q)) (f.DamagedAt q)
  pub some : ¬ f.Damaged → 0 < length f.candidates
  pub listed : Listed f.Candidate f.candidates
  pub below : (h : ℕ) → f.Candidate h → h < p
  pub offers : (j : ℕ) → f.Candidate j → Offered p f.Candidate j (f.offered j)

-- so its target is the least
pub target_is : {p : ℕ} {f : Form} → Chooses p f → ¬ f.Damaged
    → Least f.Candidate f.sum (least f.candidates f.sum) × ((j : ℕ) → Least f.Candidate f.sum j → j ≡ least f.candidates f.sum)
target_is {p} {f} s good = least-is f.sum f.candidates s.listed (s.some good)

-- All P workers.
pub around-offered : (p j : ℕ) → j < p → Offered p (λ h. h < p) j (around p j)
around-offered p j h =
    record {
      taken = λ e l.
          let there = around-at p j e 0 (omega (arith, l, length-around p j)) in
          record {
            distance = e;
            near = omega (arith, l, length-around p j);
            there = there;
            candidate = rw there (mod-lt (j + e) (omega (arith, h)));
            nearer = λ d b c. (d, b, around-at p j d 0 (omega (arith, b, l, length-around p j)));
          };
      every = λ o c. let (d, l, e) = mod-reached p j o h c in (d, omega (arith, l, length-around p j), around-at p j d 0 l ∙ e);
    }

-- Those that are open.
module _ (is_open : ℕ → Bool) where
  chosen-in : (x : ℕ) (xs : List ℕ) → is_open x ≡ true → chosen is_open (x ∷ xs) ≡ x ∷ chosen is_open xs
  unfolding chosen
  chosen-in x xs e = rw e

  chosen-out : (x : ℕ) (xs : List ℕ) → is_open x ≡ false → chosen is_open (x ∷ xs) ≡ chosen is_open xs
  unfolding chosen
  chosen-out x xs e = rw e

  -- what stands behind the first
  behind-in : (x : ℕ) (xs : List ℕ) → is_open x ≡ true → (c : ℕ) → get_or (chosen is_open (x ∷ xs)) (suc c) 0 ≡ get_or (chosen is_open xs) c 0
  behind-in x xs e c = ap (λ (l : List ℕ). get_or l (suc c) 0) (chosen-in x xs e)

  behind-out : (x : ℕ) (xs : List ℕ) → is_open x ≡ false → (c : ℕ) → get_or (chosen is_open (x ∷ xs)) c 0 ≡ get_or (chosen is_open xs) c 0
  behind-out x xs e c = ap (λ (l : List ℕ). get_or l c 0) (chosen-out x xs e)

  chosen-nil : chosen is_open [] ≡ []
  unfolding chosen
  chosen-nil = refl

  abbrev Opens : ℕ → Type 0
  Opens h = is_open h ≡ true

  open? : (h : ℕ) → Told (is_open h) (Opens h) (is_open h ≡ false)
  open? h = told (is_open h) (λ e. e) (λ e. e)

  -- where the one at place e of the chosen stands in the whole list
  record Stands (xs : List ℕ) (e : ℕ) : Type 0 where
    place : ℕ
    inside : place < length xs
    there : get_or (chosen is_open xs) e 0 ≡ get_or xs place 0
    is : Opens (get_or xs place 0)
    earlier : (d : ℕ) → d < place → Opens (get_or xs d 0) → (b : ℕ) × (b < e) × (get_or (chosen is_open xs) b 0 ≡ get_or xs d 0)
    -- those chosen before it stand before it
    ordered : (c : ℕ) → c < e → (d : ℕ) × (d < place) × (get_or (chosen is_open xs) c 0 ≡ get_or xs d 0)

  stands : (xs : List ℕ) (e : ℕ) → e < length (chosen is_open xs) → Stands xs e
  stands [] e l = absurd (omega (arith, l, ap length chosen-nil))
  stands (x ∷ xs) e l = go (open? x) (λ n h. stands xs n h) e l
    where
      go : Told (is_open x) (Opens x) (is_open x ≡ false) → ((n : ℕ) → n < length (chosen is_open xs) → Stands xs n) → (e : ℕ) → e < length (chosen is_open (x ∷ xs)) → Stands (x ∷ xs) e
      go (told-true q y) rec zero l = record { place = 0; inside = omega arith; there = rw (chosen-in x xs q) refl; is = y; earlier = λ d b. absurd (omega (arith, b)); ordered = λ c b. absurd (omega (arith, b)) }
      go (told-true q y) rec (suc e) l =
          let s : Stands xs e = rec e (omega (arith, rw (chosen-in x xs q) at l)) in
          record {
            place = suc s.place;
            inside = omega (arith, s.inside);
            there = behind-in x xs q e ∙ s.there;
            is = s.is;
            earlier = before s;
            ordered = ordered s;
          }
        where
          before : (s : Stands xs e) (d : ℕ) → d < suc s.place → Opens (get_or (x ∷ xs) d 0)
              → (b : ℕ) × (b < suc e) × (get_or (chosen is_open (x ∷ xs)) b 0 ≡ get_or (x ∷ xs) d 0)
          before s zero b i = (0, omega arith, rw (chosen-in x xs q) refl)
          before s (suc d) b i = let (c, h, t) = s.earlier d (omega (arith, b)) i in (suc c, omega (arith, h), behind-in x xs q c ∙ t)

          ordered : (s : Stands xs e) (c : ℕ) → c < suc e → (d : ℕ) × (d < suc s.place) × (get_or (chosen is_open (x ∷ xs)) c 0 ≡ get_or (x ∷ xs) d 0)
          ordered s zero b = (0, omega arith, rw (chosen-in x xs q) refl)
          ordered s (suc c) b = let (d, h, t) = s.ordered c (omega (arith, b)) in (suc d, omega (arith, h), behind-in x xs q c ∙ t)
      go (told-false q n) rec e l =
          let s : Stands xs e = rec e (rw (chosen-out x xs q) at l) in
          record {
            place = suc s.place;
            inside = omega (arith, s.inside);
            there = behind-out x xs q e ∙ s.there;
            is = s.is;
            earlier = before s;
            ordered = ordered s;
          }
        where
          before : (s : Stands xs e) (d : ℕ) → d < suc s.place → Opens (get_or (x ∷ xs) d 0)
              → (b : ℕ) × (b < e) × (get_or (chosen is_open (x ∷ xs)) b 0 ≡ get_or (x ∷ xs) d 0)
          before s zero b i = true-and-false i q
          before s (suc d) b i = let (c, h, t) = s.earlier d (omega (arith, b)) i in (c, h, behind-out x xs q c ∙ t)

          ordered : (s : Stands xs e) (c : ℕ) → c < e → (d : ℕ) × (d < suc s.place) × (get_or (chosen is_open (x ∷ xs)) c 0 ≡ get_or (x ∷ xs) d 0)
          ordered s c b = let (d, h, t) = s.ordered c b in (suc d, omega (arith, h), behind-out x xs q c ∙ t)

  -- every open one of the list is chosen
  stays : (xs : List ℕ) (d : ℕ) → d < length xs → Opens (get_or xs d 0) → (e : ℕ) × (e < length (chosen is_open xs)) × (get_or (chosen is_open xs) e 0 ≡ get_or xs d 0)
  stays [] d l i = absurd (omega (arith, l))
  stays (x ∷ xs) d l i = go (open? x) (λ n h o. stays xs n h o) d l i
    where
      go : Told (is_open x) (Opens x) (is_open x ≡ false)
          → ((n : ℕ) → n < length xs → Opens (get_or xs n 0) → (e : ℕ) × (e < length (chosen is_open xs)) × (get_or (chosen is_open xs) e 0 ≡ get_or xs n 0)) → (d : ℕ) → d < length (x ∷ xs) → Opens (get_or (x ∷ xs) d 0)
          → (e : ℕ) × (e < length (chosen is_open (x ∷ xs))) × (get_or (chosen is_open (x ∷ xs)) e 0 ≡ get_or (x ∷ xs) d 0)
      go (told-true q y) rec zero l i = rw (chosen-in x xs q) (0, omega arith, refl)
      go (told-true q y) rec (suc d) l i = rw (chosen-in x xs q) (let (e, h, t) = rec d (omega (arith, l)) i in (suc e, omega (arith, h), t))
      go (told-false q n) rec zero l i = true-and-false i q
      go (told-false q n) rec (suc d) l i = rw (chosen-out x xs q) (rec d (omega (arith, l)) i)

  abbrev pub OpenWorker : ℕ → ℕ → Type 0
  OpenWorker p h = (h < p) × (is_open h ≡ true)

  pub chosen-offered : (p j : ℕ) → j < p → Offered p (OpenWorker p) j (chosen is_open (around p j))
  chosen-offered p j h =
      record {
        taken = λ e l. took e (stands (around p j) e l);
        every = λ o c.
            let (d, l, e) = mod-reached p j o h c.0 in
            let here = around-at p j d 0 l ∙ e in
            let (x, y, z) = stays (around p j) d (omega (arith, l, length-around p j)) (rw here c.1) in
            (x, y, z ∙ here);
      }
    where
      took : (e : ℕ) → Stands (around p j) e → Taken p (OpenWorker p) j (chosen is_open (around p j)) e
      took e s =
          record {
            distance = s.place;
            near = inside;
            there = s.there ∙ here;
            candidate = rw s.there (rw here (mod-lt (j + s.place) (omega (arith, h))), s.is);
            nearer = λ d b c.
                let at-d = around-at p j d 0 (omega (arith, b, inside)) in
                let (x, y, z) = s.earlier d b (rw at-d c.1) in
                (x, y, z ∙ at-d);
          }
        where
          inside : s.place < p
          inside = omega (arith, s.inside, length-around p j)

          here : get_or (around p j) s.place 0 ≡ (j + s.place) % p
          here = around-at p j s.place 0 inside

  -- The list of candidates, rising.
  chosen-occ : (xs : List ℕ) (h : ℕ) → is_open h ≡ true → occ h (chosen is_open xs) ≡ occ h xs
  chosen-occ [] h i = ap (occ h) chosen-nil
  chosen-occ (x ∷ xs) h i = go (open? x) (chosen-occ xs h i)
    where
      go : Told (is_open x) (Opens x) (is_open x ≡ false) → occ h (chosen is_open xs) ≡ occ h xs → occ h (chosen is_open (x ∷ xs)) ≡ occ h (x ∷ xs)
      go (told-true q y) rec = rw (chosen-in x xs q) (omega (arith, occ-cons ℕ_discrete h x (chosen is_open xs), occ-cons ℕ_discrete h x xs, rec))
      go (told-false q n) rec = rw (chosen-out x xs q) (omega (arith, occ-miss ℕ_discrete h x xs (λ e. true-and-false (rw e at i) q), rec))

  chosen_none : (xs : List ℕ) (h : ℕ) → is_open h ≡ false → ◌≡◌ {A = ℕ} (occ h (chosen is_open xs)) 0
  chosen_none [] h i = ap (occ h) chosen-nil ∙ occ-nil ℕ_discrete h
  chosen_none (x ∷ xs) h i = go (open? x) (chosen_none xs h i)
    where
      go : Told (is_open x) (Opens x) (is_open x ≡ false) → ◌≡◌ {A = ℕ} (occ h (chosen is_open xs)) 0 → ◌≡◌ {A = ℕ} (occ h (chosen is_open (x ∷ xs))) 0
      go (told-true q y) rec = rw (chosen-in x xs q) (omega (arith, occ-miss ℕ_discrete h x (chosen is_open xs) (λ e. true-and-false q (rw e at i)), rec))
      go (told-false q n) rec = rw (chosen-out x xs q) rec

  pub chosen-all-listed : (p : ℕ) → Listed (OpenWorker p) (chosen is_open (all_of p))
  chosen-all-listed p =
      record {
        rising = λ a b l m. rising a b l (stands (all_of p) b m);
        members = λ h. (is h (open? h), λ c. omega (arith, chosen-occ (all_of p) h c.1, ((all_listed p).members h).1 c.0));
      }
    where
      is : (h : ℕ) → Told (is_open h) (Opens h) (is_open h ≡ false) → 0 < occ h (chosen is_open (all_of p)) → OpenWorker p h
      is h (told-true q y) c = (((all_listed p).members h).0 (omega (arith, c, chosen-occ (all_of p) h q)), q)
      is h (told-false q n) c = absurd (omega (arith, c, chosen_none (all_of p) h q))

      rising : (a b : ℕ) → a < b → Stands (all_of p) b → get_or (chosen is_open (all_of p)) a 0 < get_or (chosen is_open (all_of p)) b 0
      rising a b l s =
          let (d, h, t) = s.ordered a l in
          omega (arith, t, s.there, (all_listed p).rising d s.place h s.inside)

-- What is said of candidates may be said of others that are the same ones.
module _ {C D : ℕ → Type 0} (same : (h : ℕ) → C h ↔ D h) where
  pub offered-same : {p j : ℕ} {owners : List ℕ} → Offered p C j owners → Offered p D j owners
  offered-same o =
      record {
        taken = λ e l.
            let t = o.taken e l in
            record { distance = t.distance; near = t.near; there = t.there; candidate = (same _).0 t.candidate; nearer = λ d b c. t.nearer d b ((same _).1 c) };
        every = λ h c. o.every h ((same h).1 c);
      }

  pub listed_same : {owners : List ℕ} → Listed C owners → Listed D owners
  listed_same o = record { rising = o.rising; members = λ h. (λ c. (same h).0 ((o.members h).0 c), λ d. (o.members h).1 ((same h).1 d)) }

-- A test of each of a list's numbers.
module _ (test : ℕ → Bool) (Bad : ℕ → Type 0) (told : (x : ℕ) → Told (test x) (¬ (Bad x)) (Bad x)) where
  abbrev BadIn : List ℕ → Type 0
  BadIn xs = (d : ℕ) × (d < length xs) × Bad (get_or xs d 0)

  each-cons : (x : ℕ) (xs : List ℕ) → each test (x ∷ xs) ≡ (test x && each test xs)
  unfolding each
  each-cons x xs = refl

  each_nil : each test [] ≡ true
  unfolding each
  each_nil = refl

  pub each-told : (xs : List ℕ) → Told (each test xs) (¬ ((d : ℕ) × (d < length xs) × Bad (get_or xs d 0))) ((d : ℕ) × (d < length xs) × Bad (get_or xs d 0))
  each-told [] = told-true each_nil (λ b. omega (arith, b.1))
  each-told (x ∷ xs) = go (told x) (each-told xs)
    where
      none-bad : ¬ (Bad x) → ¬ (BadIn xs) → ¬ (BadIn (x ∷ xs))
      none-bad f g (zero, h, b) = f b
      none-bad f g (suc q, h, b) = g (q, omega (arith, h), b)

      go : Told (test x) (¬ (Bad x)) (Bad x) → Told (each test xs) (¬ (BadIn xs)) (BadIn xs) → Told (each test (x ∷ xs)) (¬ (BadIn (x ∷ xs))) (BadIn (x ∷ xs))
      go (told-true e f) (told-true d g) = told-true (rw (each-cons x xs, e, d)) (none-bad f g)
      go (told-true e f) (told-false d b) = told-false (rw (each-cons x xs, e, d)) (suc b.0, omega (arith, b.1), b.2)
      go (told-false e b) t = told-false (rw (each-cons x xs, e)) (0, omega arith, b)

  -- so of candidates that are listed
  pub listed-told : {Candidate : ℕ → Type 0} (xs : List ℕ) → Listed Candidate xs → Told (each test xs) (¬ ((o : ℕ) × Candidate o × Bad o)) ((o : ℕ) × Candidate o × Bad o)
  listed-told {Candidate} xs l = go (each-told xs)
    where
      go : Told (each test xs) (¬ (BadIn xs)) (BadIn xs) → Told (each test xs) (¬ ((o : ℕ) × Candidate o × Bad o)) ((o : ℕ) × Candidate o × Bad o)
      go (told-true e n) =
          told-true e (λ (o, c, b). let (d, h, q) = occ-at ℕ_discrete 0 o xs ((l.members o).1 c) in n (d, h, subst Bad (sym q) b))
      go (told-false e (d, h, b)) = told-false e (get_or xs d 0, (l.members (get_or xs d 0)).0 (at-occ ℕ_discrete 0 xs d h), b)
