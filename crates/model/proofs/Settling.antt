-- Settling: the retrievals that it makes, and that they are determined.
use Rattle.std.proofs.Common.{◌≡◌, ℕ, zero, suc, ◌<◌, ◌≤◌, Some, None, Option, sym, refl, ap, ◌∙◌, subst, arith}
use Rattle.model.specs.Bays.{Bay, items_at, taken_from, crates}
use Rattle.model.specs.Targets.{target}
use Rattle.model.specs.Moves.{stack_of, settle, settle_for, settle_at}
use Rattle.model.proofs.Targets.{is_target, Seen, seen, nothing, something}
use Rattle.model.proofs.Changes.{topped_if, taken, taken_crates}

-- no target, or not on top
abbrev pub Still : Option (ℕ × ℕ) → Type 0
Still None = Unit {0}
Still (Some t) = 0 < t.1

-- legal retrievals lead from b to b', where nothing is left to retrieve
pub data Settles : Bay → Bay → Type 0 where
  stop : {b : Bay} → Still (target b) → Settles b b
  step : {b b' : Bay} (s : ℕ) → target b ≡ Some (s, 0) → Settles (taken_from b s) b' → Settles b b'

pub some_fewer : (b : Bay) (s a : ℕ) → target b ≡ Some (s, a) → suc (crates (taken_from b s)) ≡ crates b
some_fewer b s a e =
    let w = is_target b s a e in
    let t = topped_if (items_at b w.place) (omega (arith, w.targeted.here, w.targeted.called)) in
    rw w.number (taken_crates b _ w.place t.under t.top (taken b w.place t.under t.top w.targeted.inside t.is))

pub out_fewer : (b : Bay) (s : ℕ) → target b ≡ Some (s, 0) → suc (crates (taken_from b s)) ≡ crates b
out_fewer b s e = some_fewer b s 0 e

pub some_crate : (b : Bay) (s a : ℕ) → target b ≡ Some (s, a) → 0 < crates b
some_crate b s a e = omega (arith, some_fewer b s a e)

still_none : (b : Bay) → target b ≡ None → Still (target b)
still_none b e = rw e tt

still_some : (b : Bay) (s a : ℕ) → target b ≡ Some (s, suc a) → Still (target b)
still_some b s a e = rw e (omega arith)

still_empty : (b : Bay) → crates b ≤ 0 → Still (target b)
still_empty b le = by (seen b)
  where
    by : Seen b → Still (target b)
    by (nothing q _) = still_none b q
    by (something k i a t q) = absurd (omega (arith, some_crate b (suc i) a q))

settles_at : (n : ℕ) (b : Bay) (o : Option (ℕ × ℕ)) → target b ≡ o
    → ((s : ℕ) → target b ≡ Some (s, 0) → Settles (taken_from b s) (settle_for n (taken_from b s)))
    → Settles b (settle_at (settle_for n) b o)
settles_at n b None e ih = stop (still_none b e)
settles_at n b (Some (s, zero)) e ih = step s e (ih s e)
settles_at n b (Some (s, suc a)) e ih = stop (still_some b s a e)

settles_for : (n : ℕ) (b : Bay) → crates b ≤ n → Settles b (settle_for n b)
settles_for zero b le = stop (still_empty b le)
settles_for (suc n) b le =
    settles_at n b (target b) refl (λ s e. settles_for n (taken_from b s) (omega (arith, out_fewer b s e)))

pub settles : (b : Bay) → Settles b (settle b)
unfolding settle
settles b = settles_for (crates b) b (omega arith)

-- settling is determined
moving : (b : Bay) (s : ℕ) → target b ≡ Some (s, 0) → Still (target b) → ⊥
moving b s e w = let z : 0 < 0 = rw e at w in omega arith

pub one_end : {b c : Bay} → Settles b c → (d : Bay) → Settles b d → c ≡ d
one_end (stop w) d (stop v) = refl
one_end (stop w) d (step s e r) = absurd (moving _ s e w)
one_end (step s e r) d (stop v) = absurd (moving _ s e v)
one_end (step {b} {b'} s e r) d (step s' e' r') =
    one_end r d (subst (λ x. Settles (taken_from b x) d) (ap stack_of (sym e' ∙ e)) r')

pub settled : (b : Bay) → Still (target (settle b))
settled b = at (settles b)
  where
    at : {c d : Bay} → Settles c d → Still (target d)
    at (stop w) = w
    at (step s e r) = at r

pub settle_out : (b : Bay) (s : ℕ) → target b ≡ Some (s, 0) → settle b ≡ settle (taken_from b s)
settle_out b s e = one_end (settles b) _ (step s e (settles (taken_from b s)))

pub settle_still : (b : Bay) → Still (target b) → settle b ≡ b
settle_still b w = one_end (settles b) b (stop w)
