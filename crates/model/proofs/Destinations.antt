-- The destinations of a relocation: each a stack with space other than the target's, none twice, tried in order.
use Rattle.std.proofs.Common.{◌≡◌, ℕ, zero, suc, ◌+◌, ◌<◌, true, not, ◌&&◌, eqb, ◌≢◌, ◌⊎◌, List, [], ◌∷◌, length, get_or, Some, None, Option, sym, refl, ◌∙◌, subst, inl, inr, ⊎_elim, arith}
use Rattle.std.proofs.lemmas.Bool.{cond_both}
use Rattle.std.proofs.lemmas.Bool.Decides.{nat_tests}
use Rattle.model.specs.Bays.{Bay, no_stack, items_at, has_space}
use Rattle.model.specs.Targets.{target}
use Rattle.model.specs.Moves.{Mem, open_from, destinations}
use Rattle.model.specs.Search.{ways, ways_at, Among, Precedes, PrecedesIn, Sooner}

-- a destination
pub record Open (b : Bay) (s n d : ℕ) : Type 0 where
  pub j : ℕ
  pub is : d ≡ n + j
  pub inside : j < length b
  pub else : d ≢ s
  pub space : length (items_at b j) < (get_or b j no_stack).clearance

pub opens : (s n d : ℕ) (b : Bay) → Mem d (open_from s n b) → Open b s n d
opens s n d [] m = absurd m
opens s n d (x ∷ b) m =
    let later = λ (m : Mem d (open_from s (suc n) b)).
    let o = opens s (suc n) d b m in
    let r : Open (x ∷ b) s n d = record { j = suc o.j; is = omega (arith, o.is); inside = omega (arith, o.inside); else = o.else; space = o.space } in r in
    cond_both (not (eqb s n) && has_space x) (n ∷ open_from s (suc n) b) (open_from s (suc n) b) (λ l. Mem d l → Open (x ∷ b) s n d)
    (λ e. ⊎_elim (λ q. record { j = 0; is = omega arith; inside = omega arith; else = λ z. grind (arith, nat_tests); space = grind (arith, nat_tests) }) later)
    (λ e. later) m

-- a list in which each number stands before those that follow
abbrev pub Ordered : (ℕ → ℕ → Type 0) → List ℕ → Type 0
Ordered R [] = Unit {0}
Ordered R (x ∷ xs) = ((y : ℕ) → Mem y xs → R x y) × Ordered R xs

abbrev pub OrderedIn : (ℕ → ℕ → Type 0) → Option (List ℕ) → Type 0
OrderedIn R None = Unit {0}
OrderedIn R (Some os) = Ordered R os

ordered_weaker : (R S : ℕ → ℕ → Type 0) → ((x y : ℕ) → R x y → S x y) → (xs : List ℕ) → Ordered R xs → Ordered S xs
ordered_weaker R S f [] o = tt
ordered_weaker R S f (x ∷ xs) o = (λ y m. f x y (o.0 y m), ordered_weaker R S f xs o.1)

-- every list is in its own order
ordered : (xs : List ℕ) → Ordered (λ d e. Precedes d e xs) xs
ordered [] = tt
ordered (x ∷ xs) = (λ y m. inl (refl, m), ordered_weaker _ _ (λ d e p. inr p) xs (ordered xs))

-- of two members one stands before the other
total_order : (d e : ℕ) (xs : List ℕ) → Mem d xs → Mem e xs → (d ≡ e) ⊎ (Precedes d e xs ⊎ Precedes e d xs)
total_order d e [] m n = absurd m
total_order d e (x ∷ xs) (inl p) (inl q) = inl (p ∙ sym q)
total_order d e (x ∷ xs) (inl p) (inr n) = inr (inl (inl (p, n)))
total_order d e (x ∷ xs) (inr m) (inl q) = inr (inr (inl (q, m)))
total_order d e (x ∷ xs) (inr m) (inr n) = ⊎_elim inl (⊎_elim (λ p. inr (inl (inr p))) (λ p. inr (inr (inr p)))) (total_order d e xs m n)

rises : (s n : ℕ) (b : Bay) → Ordered ◌<◌ (open_from s n b)
rises s n [] = tt
rises s n (x ∷ b) =
    let r = rises s (suc n) b in
    cond_both (not (eqb s n) && has_space x) (n ∷ open_from s (suc n) b) (open_from s (suc n) b) (Ordered ◌<◌)
    (λ e. (λ y m. omega (arith, (opens s (suc n) y b m).is), r)) (λ e. r)

-- in a list that rises, what stands before is lower
precedes_lower : (d e : ℕ) (xs : List ℕ) → Ordered ◌<◌ xs → Precedes d e xs → d < e
precedes_lower d e [] o p = absurd p
precedes_lower d e (x ∷ xs) o (inl p) = let l : x < e = o.0 e p.1 in omega (arith, p.0)
precedes_lower d e (x ∷ xs) o (inr p) = precedes_lower d e xs o.1 p

rising_at : (b : Bay) (o : Option (ℕ × ℕ)) → OrderedIn ◌<◌ (ways_at b o)
unfolding destinations
rising_at b None = tt
rising_at b (Some t) = rises t.0 1 b

-- destinations are tried in the order of their numbers
pub rising : (b : Bay) → OrderedIn ◌<◌ (ways b)
unfolding ways
rising b = rising_at b (target b)

lower_in : (d e : ℕ) (o : Option (List ℕ)) → OrderedIn ◌<◌ o → PrecedesIn d e o → d < e
lower_in d e None r p = absurd p
lower_in d e (Some os) r p = precedes_lower d e os r p

pub sooner_lower : (b : Bay) (d e : ℕ) → Sooner b d e → d < e
sooner_lower b d e p = lower_in d e (ways b) (rising b) p

-- what the search needs of the order
pub sooner_once : (b : Bay) (d e : ℕ) → Sooner b d e → Sooner b e d → ⊥
sooner_once b d e p q = let l = sooner_lower b d e p in let m = sooner_lower b e d q in omega arith

ordered_in : (o : Option (List ℕ)) → OrderedIn (λ d e. PrecedesIn d e o) o
ordered_in None = tt
ordered_in (Some os) = ordered os

pub sooner_ordered : (b : Bay) → OrderedIn (Sooner b) (ways b)
sooner_ordered b = ordered_in (ways b)

total_in : (d e : ℕ) (o : Option (List ℕ)) → Among d o → Among e o → (d ≡ e) ⊎ (PrecedesIn d e o ⊎ PrecedesIn e d o)
total_in d e None m n = absurd m
total_in d e (Some os) m n = total_order d e os m n

pub sooner_total : (b : Bay) (d e : ℕ) → Among d (ways b) → Among e (ways b) → (d ≡ e) ⊎ (Sooner b d e ⊎ Sooner b e d)
sooner_total b d e m n = total_in d e (ways b) m n

-- a stack with space other than s is a destination
pub open_mem : (s n j : ℕ) (b : Bay) → j < length b → n + j ≢ s → length (items_at b j) < (get_or b j no_stack).clearance → Mem (n + j) (open_from s n b)
open_mem s n j [] l ne sp = absurd (omega arith)
open_mem s n zero (x ∷ b) l ne sp =
    let t : (not (eqb s n) && has_space x) ≡ true = grind (arith, nat_tests) in
    rw t (inl (omega arith))
open_mem s n (suc j) (x ∷ b) l ne sp =
    let m : Mem (suc n + j) (open_from s (suc n) b) = open_mem s (suc n) j b (omega arith) (λ q. ne (omega arith)) sp in
    let e : suc n + j ≡ n + suc j = omega arith in
    let m' = subst (λ v. Mem v (open_from s (suc n) b)) e m in
    cond_both (not (eqb s n) && has_space x) (n ∷ open_from s (suc n) b) (open_from s (suc n) b) (Mem (n + suc j)) (λ e. inr m') (λ e. m')
