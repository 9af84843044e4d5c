-- What the target is, stack by stack.
use Rattle.std.proofs.Common.{◌≡◌, ℕ, zero, suc, ◌+◌, ◌<◌, ◌≤◌, cond, ◌⊎◌, List, [], ◌∷◌, length, Some, None, Option, sym, refl, ap, ◌∙◌, subst, inl, inr, ⊎_elim, arith}
use Rattle.std.proofs.lemmas.Bool.{lt-ltb, cases_lt}
use Rattle.std.proofs.lemmas.Bool.Decides.{nat_tests}
use Rattle.std.proofs.lemmas.List.{get_or_past}
use Rattle.model.specs.Bays.{Bay, Stack, Slot, no_stack, items_at, stack_at}
use Rattle.model.specs.Targets.{lowest, above_of, Candidate, nobody, better, scan_stack, scan_bay, chosen, target, NoEarlier, Targeted, IsTarget, TargetMeans}
use Rattle.model.proofs.Stacks.{slots_of, above_le}
use Rattle.model.proofs.Candidates.{Before, NoLater, takes, stays, compared, weaker, offer, scan_stack_lem, Fair, fair_nobody, fair_better}

-- how a scan from stack n on ends: the best so far stays, or a stack of the bay takes its place
pub data Scanned (best : Candidate) (n : ℕ) (b : Bay) : Type 0 where
  kept : scan_bay best n b ≡ best → ((j : ℕ) → j < length b → NoLater best (offer (n + j) (items_at b j))) → Scanned best n b
  replaced : (i : ℕ) → i < length b → scan_bay best n b ≡ offer (n + i) (items_at b i) → Before (offer (n + i) (items_at b i)) best
      → ((j : ℕ) → j < length b → NoLater (offer (n + i) (items_at b i)) (offer (n + j) (items_at b j)))
      → ((j : ℕ) → j < i → Before (offer (n + i) (items_at b i)) (offer (n + j) (items_at b j)))
      → Scanned best n b

-- every number up to i, by the first and the others
each : (Q : ℕ → Type 0) → Q 0 → (i : ℕ) → ((j : ℕ) → j < i → Q (suc j)) → (j : ℕ) → j < suc i → Q j
each Q p i f zero l = p
each Q p i f (suc j) l = f j (omega arith)

module _ (best : Candidate) (n : ℕ) (s : Stack) (b : Bay) where
  abbrev head : Candidate
  head = offer n s.items

  abbrev at : ℕ → Candidate
  at j = offer (n + j) (items_at (s ∷ b) j)

  abbrev tail : ℕ → Candidate
  tail j = offer (suc n + j) (items_at b j)

  scanned_more : (m : Candidate) → better best head ≡ m → Before head best ⊎ NoLater best head → Scanned m (suc n) b → scan_bay best n (s ∷ b) ≡ scan_bay m (suc n) b → Scanned best n (s ∷ b)
  scanned_more m e (inl o) (kept q f) t =
      let z : m ≡ head = sym e ∙ takes best head o in
      let is : head ≡ at 0 = ap (λ (k : ℕ). offer k s.items) (omega arith) in
      replaced 0 (omega arith) (t ∙ q ∙ z ∙ is) o
      (each (λ j. NoLater head (at j)) (inr (refl, omega arith)) (length b) (subst (λ c. (j : ℕ) → j < length b → NoLater c (tail j)) z f))
      (λ j l. absurd (omega arith))
  scanned_more m e (inr o) (kept q f) t =
      let z : m ≡ best = sym e ∙ stays best head o in
      kept (t ∙ q ∙ z) (each (λ j. NoLater best (at j)) o (length b) (subst (λ c. (j : ℕ) → j < length b → NoLater c (tail j)) z f))
  scanned_more m e o (replaced i l q w f g) t =
      let w' : Before (tail i) (better best head) = subst (Before (tail i)) (sym e) w in
      let first : Before (tail i) head = grind (arith, nat_tests) in
      let over : Before (tail i) best = grind (arith, nat_tests) in
      let is : tail i ≡ at (suc i) = ap (λ (k : ℕ). offer k (items_at b i)) (omega arith) in
      replaced (suc i) (omega arith) (t ∙ q ∙ is) over
      (each (λ j. NoLater (tail i) (at j)) (weaker (tail i) head first) (length b) f)
      (each (λ j. Before (tail i) (at j)) first i g)

scanned : (best : Candidate) (n : ℕ) (b : Bay) → Fair best → Scanned best n b
scanned best n [] f = kept refl (λ j l. absurd (omega arith))
scanned best n (s ∷ b) f =
    let e = scan_stack_lem best n s.items f in
    scanned_more best n s b (scan_stack best n s.items) (sym e) (compared (offer n s.items) best)
    (scanned (scan_stack best n s.items) (suc n) b (subst Fair (sym e) (fair_better best (offer n s.items) f))) refl

-- either no crate is called, or there is a target
pub data Seen (b : Bay) : Type 0 where
  nothing : target b ≡ None → ((j : ℕ) → 65536 ≤ lowest (items_at b j)) → Seen b
  something : (k i a : ℕ) → Targeted b k i a → target b ≡ Some (suc i, a) → Seen b

-- beyond the last stack nothing stands
pub items_at_beyond : (b : Bay) (j : ℕ) → length b ≤ j → items_at b j ≡ []
items_at_beyond b j l = ap slots_of (get_or_past b j no_stack l)

anywhere : (b : Bay) (P : List Slot → Type 0) → P [] → ((j : ℕ) → j < length b → P (items_at b j)) → (j : ℕ) → P (items_at b j)
anywhere b P p f j = ⊎_elim (f j) (λ l. subst P (sym (items_at_beyond b j l)) p) (cases_lt j (length b))

no_earlier : (k a : ℕ) (xs : List Slot) → (k < lowest xs) ⊎ ((k ≡ lowest xs) × (a ≤ above_of (lowest xs) xs)) → NoEarlier k a xs
no_earlier k a xs w = grind arith

chosen_some : (c : Candidate) → c.late < 65536 → chosen c ≡ Some (c.stack, c.above)
chosen_some c l = ap (λ t. cond t (Some (c.stack, c.above)) None) (lt-ltb c.late 65536 l)

pub seen : (b : Bay) → Seen b
unfolding target
seen b = by (scanned nobody 1 b fair_nobody)
  where
    by : Scanned nobody 1 b → Seen b
    by (kept q f) =
        nothing (ap chosen q) (anywhere b (λ xs. 65536 ≤ lowest xs) (omega arith) (λ j l. grind (arith, f j l)))
    by (replaced i l q w f g) =
        let k = lowest (items_at b i) in
        let a = above_of k (items_at b i) in
        let c : k < 65536 = grind (arith, w) in
        something k i a
        (record {
          called = c;
          inside = l;
          here = refl;
          above = refl;
          least = anywhere b (NoEarlier k a) (inl c) (λ j m. no_earlier k a (items_at b j) (f j m));
          first = λ j m. no_earlier k (suc a) (items_at b j) (g j m);
        })
        (ap chosen q ∙ chosen_some (offer (1 + i) (items_at b i)) c ∙ ap (λ (s : ℕ). Some (s, a)) (omega arith))

-- a bay has one target
pub least_at : (b : Bay) (k i a : ℕ) → Targeted b k i a → (j : ℕ) → k ≤ lowest (items_at b j)
least_at b k i a t j = grind (arith, t.least j)

one_call : (b : Bay) (k i a k' i' a' : ℕ) → Targeted b k i a → Targeted b k' i' a' → k ≡ k'
one_call b k i a k' i' a' t u =
    omega (arith, least_at b k i a t i', u.here, least_at b k' i' a' u i, t.here)

one_above : (b : Bay) (k i a i' a' : ℕ) → Targeted b k i a → Targeted b k i' a' → a ≡ a'
one_above b k i a i' a' t u =
    grind (arith, t.least i', u.least i, t.here, u.here, t.above, u.above)

one_place : (b : Bay) (k i a i' : ℕ) → Targeted b k i a → Targeted b k i' a → i ≡ i'
one_place b k i a i' t u = grind (arith, u.first i, t.first i', t.here, u.here, t.above, u.above)

pub target_is : (b : Bay) (k i a : ℕ) → Targeted b k i a → target b ≡ Some (suc i, a)
target_is b k i a t = by (seen b)
  where
    by : Seen b → target b ≡ Some (suc i, a)
    by (nothing q f) = absurd (omega (arith, f i, t.here, t.called))
    by (something k' i' a' u q) =
        let ek = one_call b k' i' a' k i a u t in
        let u' : Targeted b k i' a' = subst (λ z. Targeted b z i' a') ek u in
        let ea = one_above b k i' a' i a u' t in
        let ei = one_place b k i' a i (subst (λ z. Targeted b k i' z) ea u') t in
        cc

pub is_target : (b : Bay) (s a : ℕ) → target b ≡ Some (s, a) → IsTarget b s a
is_target b s a e = by (seen b)
  where
    by : Seen b → IsTarget b s a
    by (nothing q _) = cc
    by (something k i a' t q) =
        let p : (suc i, a') ≡ (s, a) = cc in
        record { call = k; place = i; number = sym (ap (λ (x : ℕ × ℕ). x.0) p); targeted = subst (λ x. Targeted b k i x) (ap (λ (x : ℕ × ℕ). x.1) p) t }

means_at : (b : Bay) (o : Option (ℕ × ℕ)) → target b ≡ o → Seen b → TargetMeans b o
means_at b None e (nothing q f) = f
means_at b None e (something k i a t q) = cc
means_at b (Some t) e s = is_target b t.0 t.1 e

-- what the answer of the target finder says
pub target_means : (b : Bay) → TargetMeans b (target b)
target_means b = means_at b (target b) refl (seen b)

-- fewer crates are above the target than stand in its stack
pub above_under_in : (k : ℕ) (xs : List Slot) → lowest xs < 65536 → above_of k xs < length xs
above_under_in k [] l = absurd (omega arith)
above_under_in k (x ∷ xs) l = omega (arith, above_le k x xs)

pub above_under : (b : Bay) (s a : ℕ) → target b ≡ Some (s, a) → a < length (stack_at b s).items
above_under b s a e =
    let t = is_target b s a e in
    let u : a < length (items_at b t.place) =
    omega (arith, above_under_in t.call (items_at b t.place) (omega (arith, t.targeted.here, t.targeted.called)), t.targeted.above) in
    subst (λ z. a < length (stack_at b z).items) (sym t.number) u
