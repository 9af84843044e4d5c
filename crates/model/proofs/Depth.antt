-- Depth: any depth over the limit gives the same round.
use Rattle.std.proofs.Common.{◌≡◌, ℕ, zero, suc, ◌+◌, ◌<◌, ◌≤◌, Bool, true, false, eqb, ltb, List, [], ◌∷◌, Some, None, Option, refl, ap, ◌∙◌, arith}
use Rattle.std.proofs.lemmas.Bool.{ltb-false}
use Rattle.model.specs.Bays.{Bay}
use Rattle.model.specs.Search.{Round, found, spent, over, ways, next, onward, unless_spent, unless_cut, across, from_ways, deep}

module _ (h : Bay → ℕ) (budget limit : ℕ) where
  abbrev pub D : ℕ → ℕ → Bay → Bool → ℕ → Round
  D = deep h budget limit

  -- enough depth is enough
  abbrev pub SameAt : ℕ → ℕ → Type 0
  SameAt l l' = (g : ℕ) (b : Bay) (cut : Bool) (n : ℕ) → limit < g + l → limit < g + l' → g ≤ limit → D l g b cut n ≡ D l' g b cut n

  same_try : (l l' : ℕ) → SameAt l l' → (g : ℕ) (b : Bay) (cut : Bool) (n : ℕ) → limit < g + l → limit < g + l'
      → (t : Bool) → ltb limit (g + h b) ≡ t → unless_cut t (D l g b) cut n ≡ unless_cut t (D l' g b) cut n
  same_try l l' ih g b cut n p q true e = refl
  same_try l l' ih g b cut n p q false e = ih g b cut n p q (omega (arith, ltb-false limit (g + h b) e))

  same_onward : (d : ℕ) (r r' : Bool → ℕ → Round) → ((c : Bool) (n : ℕ) → r c n ≡ r' c n) → (x : Round) → onward d r x ≡ onward d r' x
  same_onward d r r' f (found ds n) = refl
  same_onward d r r' f (spent n) = refl
  same_onward d r r' f (over c n) = f c n

  same_spent : (t : Bool) (f f' : ℕ → Round) → ((n : ℕ) → f n ≡ f' n) → (n : ℕ) → unless_spent t f n ≡ unless_spent t f' n
  same_spent true f f' e n = refl
  same_spent false f f' e n = e (suc n)

  same_across : (l l' : ℕ) → SameAt l l' → (g : ℕ) (b : Bay) → limit < suc g + l → limit < suc g + l' → (os : List ℕ) (cut : Bool) (n : ℕ)
      → across h budget limit (D l) g b os cut n ≡ across h budget limit (D l') g b os cut n
  same_across l l' ih g b p q [] cut n = refl
  same_across l l' ih g b p q (d ∷ os) cut n =
      same_spent (eqb n budget) _ _
      (λ m. ap (onward d (across h budget limit (D l) g b os)) (same_try l l' ih (suc g) (next b d) cut m p q (ltb limit (suc g + h (next b d))) refl)
      ∙ same_onward d _ _ (same_across l l' ih g b p q os) _) n

  pub same_ways : (l l' : ℕ) → SameAt l l' → (g : ℕ) (b : Bay) → limit < suc g + l → limit < suc g + l' → (o : Option (List ℕ)) (cut : Bool) (n : ℕ)
      → from_ways h budget limit (D l) g b o cut n ≡ from_ways h budget limit (D l') g b o cut n
  same_ways l l' ih g b p q None cut n = refl
  same_ways l l' ih g b p q (Some os) cut n = same_across l l' ih g b p q os cut n

  pub same_deep : (l l' : ℕ) → SameAt l l'
  same_deep zero l' g b cut n p q near = absurd (omega arith)
  same_deep (suc l) zero g b cut n p q near = absurd (omega arith)
  same_deep (suc l) (suc l') g b cut n p q near =
      same_ways l l' (same_deep l l') g b (omega arith) (omega arith) (ways b) cut n
