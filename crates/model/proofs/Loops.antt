-- One round as a loop walks it: levels of bays that the loop went deeper from, the innermost first.
use Rattle.std.proofs.Common.{◌≡◌, ℕ, zero, suc, pred, ◌+◌, ◌<◌, ◌≤◌, Bool, true, cond, not, ◌&&◌, eqb, ◌≢◌, List, [], ◌∷◌, ◌++◌, length, drop, Some, None, sym, refl, ap, ◌∙◌, append_assoc, arith, drop-cons}
use Rattle.std.proofs.lemmas.Bool.{lt-ltb, le-ltb, eq-eqb, ne_eqb}
use Rattle.std.proofs.lemmas.List.{drop_all}
use Rattle.model.specs.Bays.{Bay, no_stack, has_space, stack_at}
use Rattle.model.specs.Moves.{open_from, destinations}
use Rattle.model.specs.Search.{ways, next, Round, found, spent, over, onward, across, from_ways, deep}
use Rattle.model.proofs.Depth.{D, same_deep, same_ways}

-- a settled bay, the destination last tried in it, and those that are left after it
pub record Level : Type 0 where
  pub bay : Bay
  pub dest : ℕ
  pub rest : List ℕ

-- the destinations of the levels, outermost first
abbrev pub path : List Level → List ℕ
path [] = []
path (f ∷ fs) = path fs ++ f.dest ∷ []

module _ (h : Bay → ℕ) (budget limit : ℕ) where
  -- the search from the settled bay b with g relocations made, and from the destinations left in it
  abbrev pub whole : ℕ → Bay → Bool → ℕ → Round
  whole g b cut n = deep h budget limit (suc limit) g b cut n

  abbrev pub along : ℕ → Bay → List ℕ → Bool → ℕ → Round
  along g b os cut n = across h budget limit (deep h budget limit (suc limit)) g b os cut n

  -- what the round comes to, once the innermost search has come to its end
  abbrev pub unwind : List Level → Round → Round
  unwind [] r = r
  unwind (f ∷ fs) (found ds n) = unwind fs (found (f.dest ∷ ds) n)
  unwind (f ∷ fs) (spent n) = unwind fs (spent n)
  unwind (f ∷ fs) (over c n) = unwind fs (along (length fs) f.bay f.rest c n)

-- the destinations of b that are left at stack d, for a target in stack s
abbrev pub remaining : Bay → ℕ → ℕ → List ℕ
remaining b s d = open_from s d (drop (pred d) b)

module _ (h : Bay → ℕ) (budget limit : ℕ) where
  -- the search unfolds once
  pub whole_is : (g : ℕ) (b : Bay) (cut : Bool) (n : ℕ) → whole h budget limit g b cut n ≡ from_ways h budget limit (D h budget limit (suc limit)) g b (ways b) cut n
  whole_is g b cut n = same_ways h budget limit limit (suc limit) (same_deep h budget limit limit (suc limit)) g b (omega arith) (omega arith) (ways b) cut n

  pub whole_open : (g : ℕ) (b : Bay) (os : List ℕ) (cut : Bool) (n : ℕ) → ways b ≡ Some os → whole h budget limit g b cut n ≡ along h budget limit g b os cut n
  whole_open g b os cut n e = whole_is g b cut n ∙ ap (λ o. from_ways h budget limit (D h budget limit (suc limit)) g b o cut n) e

  pub whole_done : (g : ℕ) (b : Bay) (cut : Bool) (n : ℕ) → ways b ≡ None → whole h budget limit g b cut n ≡ found [] n
  whole_done g b cut n e = ap (λ o. from_ways h budget limit (D h budget limit limit) g b o cut n) e

  -- one try
  pub step_cut : (g : ℕ) (b : Bay) (d : ℕ) (os : List ℕ) (cut : Bool) (n : ℕ) → n ≢ budget → limit < suc g + h (next b d)
      → along h budget limit g b (d ∷ os) cut n ≡ along h budget limit g b os true (suc n)
  step_cut g b d os cut n ne lt = rw (ne_eqb n budget ne, lt-ltb limit (suc g + h (next b d)) lt)

  step_in : (g : ℕ) (b : Bay) (d : ℕ) (os : List ℕ) (cut : Bool) (n : ℕ) → n ≢ budget → suc g + h (next b d) ≤ limit
      → along h budget limit g b (d ∷ os) cut n ≡ onward d (along h budget limit g b os) (whole h budget limit (suc g) (next b d) cut (suc n))
  step_in g b d os cut n ne le = rw (ne_eqb n budget ne, le-ltb limit (suc g + h (next b d)) le)

  unwind-spent : (fs : List Level) (n : ℕ) → unwind h budget limit fs (spent n) ≡ spent n
  unwind-spent [] n = refl
  unwind-spent (f ∷ fs) n = unwind-spent fs n

  unwind-found : (fs : List Level) (ds : List ℕ) (n : ℕ) → unwind h budget limit fs (found ds n) ≡ found (path fs ++ ds) n
  unwind-found [] ds n = refl
  unwind-found (f ∷ fs) ds n = unwind-found fs (f.dest ∷ ds) n ∙ ap (λ l. found l n) (sym (append_assoc (path fs) (f.dest ∷ []) ds))

  unwind-onward : (b : Bay) (d : ℕ) (os : List ℕ) (fs : List Level) (r : Round)
      → unwind h budget limit fs (onward d (along h budget limit (length fs) b os) r) ≡ unwind h budget limit (record { bay = b; dest = d; rest = os } ∷ fs) r
  unwind-onward b d os fs (found ds n) = refl
  unwind-onward b d os fs (spent n) = refl
  unwind-onward b d os fs (over c n) = refl

  -- the steps: the round is what unwinding what is left comes to
  module _ (fs : List Level) (b : Bay) where
    pub loop_spent : (d : ℕ) (os : List ℕ) (cut : Bool) (n : ℕ) → n ≡ budget
        → unwind h budget limit fs (along h budget limit (length fs) b (d ∷ os) cut n) ≡ spent n
    loop_spent d os cut n e = rw (eq-eqb n budget e) (unwind-spent fs n)

    pub loop_cut : (d : ℕ) (os : List ℕ) (cut : Bool) (n : ℕ) → n ≢ budget → limit < suc (length fs) + h (next b d)
        → unwind h budget limit fs (along h budget limit (length fs) b (d ∷ os) cut n)
        ≡ unwind h budget limit fs (along h budget limit (length fs) b os true (suc n))
    loop_cut d os cut n ne lt = ap (unwind h budget limit fs) (step_cut (length fs) b d os cut n ne lt)

    pub loop_found : (d : ℕ) (os : List ℕ) (cut : Bool) (n : ℕ) → n ≢ budget → suc (length fs) + h (next b d) ≤ limit → ways (next b d) ≡ None
        → unwind h budget limit fs (along h budget limit (length fs) b (d ∷ os) cut n) ≡ found (path fs ++ d ∷ []) (suc n)
    loop_found d os cut n ne le e =
        ap (unwind h budget limit fs) (step_in (length fs) b d os cut n ne le ∙ ap (onward d (along h budget limit (length fs) b os)) (whole_done (suc (length fs)) (next b d) cut (suc n) e))
        ∙ unwind-found fs (d ∷ []) (suc n)

    pub loop_deeper : (d : ℕ) (os : List ℕ) (cut : Bool) (n : ℕ) (os' : List ℕ) → n ≢ budget → suc (length fs) + h (next b d) ≤ limit → ways (next b d) ≡ Some os'
        → unwind h budget limit fs (along h budget limit (length fs) b (d ∷ os) cut n)
        ≡ unwind h budget limit (record { bay = b; dest = d; rest = os } ∷ fs) (along h budget limit (suc (length fs)) (next b d) os' cut (suc n))
    loop_deeper d os cut n os' ne le e =
        ap (unwind h budget limit fs) (step_in (length fs) b d os cut n ne le ∙ ap (onward d (along h budget limit (length fs) b os)) (whole_open (suc (length fs)) (next b d) os' cut (suc n) e))
        ∙ unwind-onward b d os fs _

-- the destinations by number
pub remaining-all : (b : Bay) (s : ℕ) → remaining b s 1 ≡ destinations b s
unfolding destinations
remaining-all b s = refl

pub remaining_end : (b : Bay) (s d : ℕ) → length b < d → remaining b s d ≡ []
remaining_end b s zero l = absurd (omega arith)
remaining_end b s (suc i) l = ap (open_from s (suc i)) (drop_all i b (omega arith))

pub remaining_more : (b : Bay) (s d : ℕ) → 0 < d → d ≤ length b
    → remaining b s d ≡ cond (not (eqb s d) && has_space (stack_at b d)) (d ∷ remaining b s (suc d)) (remaining b s (suc d))
remaining_more b s zero p l = absurd (omega arith)
remaining_more b s (suc i) p l = ap (open_from s (suc i)) (drop-cons b i no_stack (omega arith))
