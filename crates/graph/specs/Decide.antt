-- Each condition of the table is decided. What a decision means is its type; how it is reached matters to nobody.
use Rattle.std.specs.Prelude.{ℕ, zero, suc, ◌+◌, ◌≤◌, ◌<◌, ◌≡◌, refl, ◌⊎◌, List, [], ◌∷◌, length, get_or}
use Rattle.std.proofs.Common.{inl, inr, arith}
use Rattle.std.proofs.Math.Decide.{ℕ_discrete, dec_le, dec_lt}
use Rattle.lists.specs.Lists.{occ}
use Rattle.lists.proofs.Told.{neither}
use Rattle.lists.proofs.Occurrences.{occ-nil, occ-hit, occ-miss, occ-cons}
use Rattle.graph.specs.Graph.{Among, part, Graph, edge_count, preds_of, Edge, Leads, edge, via}
use Rattle.graph.specs.Conditions.{Light, Good, Bad, EndsFit, Twice, OnCycle}

abbrev pub not? : {A : Type 0} → Dec A → Dec (¬ A)
not? (yes a) = no (λ n. n a)
not? (no n) = yes n

abbrev pub both? : {A B : Type 0} → Dec A → Dec B → Dec (A × B)
both? (yes a) (yes b) = yes (a, b)
both? (yes a) (no n) = no (λ p. n p.1)
both? (no n) b = no (λ p. n p.0)

pub leads-append : {A : Type 0} {E : A → A → Type 0} {u v t : A} → Leads E u v → Leads E v t → Leads E u t
leads-append (edge e) q = via e q
leads-append (via e p) q = via e (leads-append p q)

abbrev pub either? : {A B : Type 0} → Dec A → Dec B → Dec (A ⊎ B)
either? (yes a) b = yes (inl a)
either? (no n) (yes b) = yes (inr b)
either? (no n) (no m) = no (neither n m)

-- the same question in other words
abbrev pub map? : {A B : Type 0} → (A → B) → (B → A) → Dec A → Dec B
map? f g (yes a) = yes (f a)
map? f g (no n) = no (λ b. n (g b))

abbrev pub implies? : {A B : Type 0} → Dec A → Dec B → Dec (A → B)
implies? (no n) b = yes (λ a. absurd (n a))
implies? (yes a) (yes b) = yes (λ _. b)
implies? (yes a) (no n) = no (λ f. n (f a))

module _ {P : ℕ → Type 0} (d : (t : ℕ) → Dec (P t)) where
  pub last-too : (n : ℕ) → ((t : ℕ) → t < n → P t) × P n → (t : ℕ) → t < suc n → P t
  last-too n p t h = go (ℕ_discrete t n)
    where
      go : Dec (t ≡ n) → P t
      go (yes e) = rw e p.1
      go (no q) = p.0 t (omega arith)

  -- whether every number below n has the property
  unfoldable pub below? : (n : ℕ) → Dec ((t : ℕ) → t < n → P t)
  below? zero = yes (λ t h. absurd (omega arith))
  below? (suc n) = map? (last-too n) (λ f. (λ t h. f t (omega arith), f n (omega arith))) (both? (below? n) (d n))

  pub first-too : (x : ℕ) (l : List ℕ) → P x × ((u : ℕ) → Among u l → P u) → (u : ℕ) → Among u (x ∷ l) → P u
  first-too x l p u h = go (ℕ_discrete u x)
    where
      go : Dec (u ≡ x) → P u
      go (yes e) = rw e p.0
      go (no q) = p.1 u (omega (arith, occ-miss ℕ_discrete u x l q))

  -- whether every number in the list has the property
  unfoldable pub among? : (l : List ℕ) → Dec ((u : ℕ) → Among u l → P u)
  among? [] = yes (λ u h. absurd (omega (arith, occ-nil ℕ_discrete u)))
  among? (x ∷ l) =
      map? (first-too x l) (λ f. (f x (omega (arith, occ-hit ℕ_discrete x x l refl)), λ u h. f u (omega (arith, occ-cons ℕ_discrete u x l))))
      (both? (d x) (among? l))

unfoldable pub light? : (weights : List ℕ) → Dec (Light weights)
light? weights = below? (λ t. dec_le (get_or weights t 0) 65535) (length weights)

unfoldable pub good? : (n : ℕ) (starts words : List ℕ) (t : ℕ) → Dec (Good n starts words t)
good? n starts words t =
    map? (λ p. record { rises = p.0; inside = p.1.0; below = p.1.1 }) (λ r. (r.rises, (r.inside, r.below)))
    (both? (dec_le (get_or starts t 0) (get_or starts (t + 1) 0)) (both? (dec_le (get_or starts (t + 1) 0) (length words)) (among? (λ u. dec_lt u n) (part starts words t))))

unfoldable pub bad? : (g : Graph) (t : ℕ) → Dec (Bad g t)
bad? g t = not? (good? g.tasks g.starts g.preds t)

unfoldable pub ends_fit? : (g : Graph) → Dec (EndsFit g)
ends_fit? g =
    map? (λ p. record { first = p.0; last = p.1 }) (λ r. (r.first, r.last))
    (both? (ℕ_discrete (get_or g.starts 0 0) 0) (ℕ_discrete (get_or g.starts g.tasks 0) (edge_count g)))

module _ (l : List ℕ) where
  abbrev pub Few : ℕ → Type 0
  Few u = occ u l ≤ 1

  pub few-all : ((u : ℕ) → Among u l → Few u) → ¬ ((u : ℕ) × (2 ≤ occ u l))
  few-all f w = omega (arith, f w.0 (omega (arith, w.1)), w.1)

  -- one that stands in the list twice, where not all stand there once
  unfoldable pub find-twice : (k : List ℕ) → ((u : ℕ) → Among u k → Few u) ⊎ ((u : ℕ) × (2 ≤ occ u l))
  find-twice [] = inl (λ u h. absurd (omega (arith, occ-nil ℕ_discrete u)))
  find-twice (x ∷ k) = go (dec_le (occ x l) 1) (find-twice k)
    where
      go : Dec (Few x) → ((u : ℕ) → Among u k → Few u) ⊎ ((u : ℕ) × (2 ≤ occ u l)) → ((u : ℕ) → Among u (x ∷ k) → Few u) ⊎ ((u : ℕ) × (2 ≤ occ u l))
      go (yes o) (inl f) = inl (first-too (λ u. dec_le (occ u l) 1) x k (o, f))
      go (yes o) (inr w) = inr w
      go (no m) r = inr (x, omega arith)

  abbrev pub decided : ((u : ℕ) → Among u l → Few u) ⊎ ((u : ℕ) × (2 ≤ occ u l)) → Dec ((u : ℕ) × (2 ≤ occ u l))
  decided (inl f) = no (few-all f)
  decided (inr w) = yes w

-- whether a number stands in the list twice
unfoldable pub twice_in? : (l : List ℕ) → Dec ((u : ℕ) × (2 ≤ occ u l))
twice_in? l = decided l (find-twice l l)

unfoldable pub twice? : (g : Graph) (t : ℕ) → Dec (Twice g t)
twice? g t = twice_in? (preds_of g t)

unfoldable pub edge? : (g : Graph) (u t : ℕ) → Dec (Edge g u t)
edge? g u t = map? (λ p. record { task = p.0; predecessor = p.1 }) (λ e. (e.task, e.predecessor)) (both? (dec_lt t g.tasks) (dec_lt 0 (occ u (preds_of g t))))

-- Paths between numbers, by the largest number that they go through.
module _ (E : ℕ → ℕ → Type 0) where
  -- a path from u to t through numbers below k alone
  abbrev pub Thru : ℕ → ℕ → ℕ → Type 0
  Thru zero u t = E u t
  Thru (suc k) u t = Thru k u t ⊎ (Thru k u k × Thru k k t)

  join : (k u v t : ℕ) → v < k → Thru k u v → Thru k v t → Thru k u t
  join zero u v t h p q = absurd (omega arith)
  join (suc k) u v t h p q = go (ℕ_discrete v k) (λ x y l. join k x v y l) p q
    where
      to-k : (x : ℕ) → Thru (suc k) x k → Thru k x k
      to-k x (inl p) = p
      to-k x (inr r) = r.0

      from-k : (x : ℕ) → Thru (suc k) k x → Thru k k x
      from-k x (inl p) = p
      from-k x (inr r) = r.1

      go : Dec (v ≡ k) → ((x y : ℕ) → v < k → Thru k x v → Thru k v y → Thru k x y) → Thru (suc k) u v → Thru (suc k) v t → Thru (suc k) u t
      go (yes e) r p q = inr (to-k u (rw e at p), from-k t (rw e at q))
      go (no n) r (inl p) (inl q) = inl (r u t (omega arith) p q)
      go (no n) r (inl p) (inr q) = inr (r u k (omega arith) p q.0, q.1)
      go (no n) r (inr p) (inl q) = inr (p.0, r k t (omega arith) p.1 q)
      go (no n) r (inr p) (inr q) = inr (p.0, q.1)

  lift : (k u t : ℕ) → E u t → Thru k u t
  lift zero u t e = e
  lift (suc k) u t e = inl (lift k u t e)

  pub leads-thru : (k u t : ℕ) → Thru k u t → Leads E u t
  leads-thru zero u t e = edge e
  leads-thru (suc k) u t (inl p) = leads-thru k u t p
  leads-thru (suc k) u t (inr p) = leads-append (leads-thru k u k p.0) (leads-thru k k t p.1)

  module _ (n : ℕ) (below : (u t : ℕ) → E u t → t < n) where
    pub thru-leads : {u t : ℕ} → Leads E u t → Thru n u t
    thru-leads {u} {t} (edge e) = lift n u t e
    thru-leads {u} {t} (via {v = v} e p) = join n u v t (below u v e) (lift n u v e) (thru-leads p)

    module _ (dec : (u t : ℕ) → Dec (E u t)) where
      unfoldable pub thru? : (k u t : ℕ) → Dec (Thru k u t)
      thru? zero u t = dec u t
      thru? (suc k) u t = either? (thru? k u t) (both? (thru? k u k) (thru? k k t))

      unfoldable pub path? : (u t : ℕ) → Dec (Leads E u t)
      path? u t = map? (leads-thru n u t) thru-leads (thru? n u t)

-- whether a path of edges leads from u to t
unfoldable pub leads? : (g : Graph) (u t : ℕ) → Dec (Leads (Edge g) u t)
leads? g u t = path? (Edge g) g.tasks (λ v w e. e.task) (edge? g) u t

unfoldable pub on_cycle? : (g : Graph) (t : ℕ) → Dec (OnCycle g t)
on_cycle? g t = leads? g t t
