-- How many relocations can be left: each relocation of a legal handling brings the number down, and a sound bay has at most 672.
use Rattle.std.proofs.Common.{◌≡◌, ℕ, suc, pred, ◌+◌, ◌*◌, ◌<◌, ◌≤◌, [], ◌∷◌, length, Some, None, Option, ap, arith}
use Rattle.model.specs.Bays.{Bay, items_at, stack_at, taken_from, relocated, crates, Sound}
use Rattle.model.specs.Targets.{target}
use Rattle.model.specs.Search.{ways, next, Among}
use Rattle.model.proofs.Targets.{is_target, above_under, Seen, seen, nothing, something}
use Rattle.model.proofs.Settling.{Still, Settles, stop, step, settles, settled, some_crate, out_fewer}
use Rattle.model.proofs.Handlings.{among}
use Rattle.model.proofs.Soundness.{sound_retrieved, sound_settles, relocates}

-- how many relocations can be left at most, with heights of at most 8
abbrev pub left_at : ℕ → Option (ℕ × ℕ) → ℕ
left_at c None = 0
left_at c (Some t) = 7 * pred c + t.1

abbrev pub left : Bay → ℕ
left b = left_at (crates b) (target b)

pub above_small : (b : Bay) (s a : ℕ) → target b ≡ Some (s, a) → Sound b → a ≤ 7
above_small b s a e so =
    let t = is_target b s a e in
    omega (arith, above_under b s a e, ap (λ z. length (stack_at b z).items) t.number, so.heights t.place)

left_none : (b : Bay) → target b ≡ None → left b ≡ 0
left_none b e = rw e

left_some : (b : Bay) (s a : ℕ) → target b ≡ Some (s, a) → left b ≡ 7 * pred (crates b) + a
left_some b s a e = rw e

-- a bay with one crate less has no more left, whatever its target
left_under : (b : Bay) (c : ℕ) → suc (crates b) ≤ c → Sound b → left b ≤ 7 * pred c
left_under b c le so = by (seen b)
  where
    by : Seen b → left b ≤ 7 * pred c
    by (nothing q _) = omega (arith, left_none b q)
    by (something k i a t q) = omega (arith, left_some b (suc i) a q, above_small b (suc i) a q so, some_crate b (suc i) a q)

left_out : (b : Bay) (s : ℕ) → target b ≡ Some (s, 0) → Sound b → left (taken_from b s) ≤ left b
left_out b s e so =
    omega (arith, left_under (taken_from b s) (crates b) (omega (arith, out_fewer b s e)) (sound_retrieved b s e so), left_some b s 0 e)

left_settles : {b c : Bay} → Settles b c → Sound b → left c ≤ left b
left_settles (stop w) so = omega arith
left_settles (step {b} {b'} s e r) so = omega (arith, left_settles r (sound_retrieved b s e so), left_out b s e so)

-- a settled sound bay, and what a relocation makes of it
unfoldable pub Fine : Bay → Type 0
Fine b = Still (target b) × Sound b

pub keeps : (b : Bay) (d : ℕ) → Fine b → Among d (ways b) → Fine (next b d)
unfolding Fine next
keeps b d f m =
    let r = among b d f.0 m in
    let q = relocates b d r in
    rw r.is (settled _, sound_settles (settles _) (q.sound f.1))

pub falls : (b : Bay) (d : ℕ) → Fine b → Among d (ways b) → left (next b d) < left b
unfolding Fine next
falls b d f m =
    let r = among b d f.0 m in
    let q = relocates b d r in
    let b' = relocated b r.s d in
    rw r.is (omega (arith, left_settles (settles b') (q.sound f.1), left_some b' r.s r.a q.targets, q.many))

pub crates_le : (b : Bay) → ((i : ℕ) → length (items_at b i) ≤ 8) → crates b ≤ 8 * length b
crates_le [] f = omega arith
crates_le (s ∷ b) f =
    let h : length s.items ≤ 8 = f 0 in
    omega (arith, crates_le b (λ i. f (suc i)))

-- a sound bay allows at most 672 relocations
pub left_small : (b : Bay) → Sound b → left b ≤ 672
left_small b so = by (seen b)
  where
    by : Seen b → left b ≤ 672
    by (nothing q _) = omega (arith, left_none b q)
    by (something k i a t q) =
        omega (arith, left_some b (suc i) a q, above_small b (suc i) a q so, some_crate b (suc i) a q, crates_le b so.heights, so.few)
