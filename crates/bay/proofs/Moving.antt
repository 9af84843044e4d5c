-- Legal moves, and settling, as a working bay makes them.
use Rattle.std.proofs.Common.{◌≡◌, ℕ, suc, ◌-◌, ◌<◌, Bool, true, false, MatchBool, cond, not, ◌&&◌, eqb, ltb, ◌≢◌, ◌⊎◌, List, [], ◌∷◌, length, Some, None, Option, sym, refl, ap, ◌∙◌, subst, inl, inr, arith}
use Rattle.std.proofs.lemmas.Bool.{lt-ltb, and_from, not_from_false, ne_eqb, both_ways}
use Rattle.model.specs.Bays.{Bay, Slot, items_at, stack_at, top_slot, taken_from, relocated, crates, has_space}
use Rattle.model.specs.Targets.{lowest, target}
use Rattle.model.specs.Moves.{retrieve, relocate, Mem, destinations, Legal, stack_of, settle}
use Rattle.model.proofs.Targets.{is_target}
use Rattle.model.proofs.Settling.{settle_out, settle_still, out_fewer, Still}
use Rattle.model.proofs.Handlings.{Relocates, legal_retrieve, legal_relocate, retrieve_legal, relocate_legal}
use Rattle.model.proofs.Destinations.{open_mem, opens as mem-open}
use Rattle.bay.specs.Ask.{height_at, opens, carries}
use Rattle.bay.specs.Move.{Made, Left}
use Rattle.model.specs.Carrying.{top_crate}
use Rattle.bay.proofs.Carrying.{opened, spacious}

-- where a target is, a crate stands
some_crate : (xs : List Slot) → lowest xs < 65536 → 0 < length xs
some_crate [] l = absurd (omega arith)
some_crate (x ∷ xs) l = omega arith

same_stack : (t u : ℕ × ℕ) → ◌≡◌ {A = Option (ℕ × ℕ)} (Some t) (Some u) → t ≡ u
same_stack t u q = cc

module _ (b : Bay) (s a : ℕ) (e : Some (s, a) ≡ target b) where
  pub target_high : 0 < height_at b s
  target_high =
      let t = is_target b s a (sym e) in
      subst (λ z. 0 < height_at b z) (sym t.number) (some_crate (items_at b t.place) (omega (arith, t.targeted.here, t.targeted.called)))

  stack_is : stack_of (target b) ≡ s
  stack_is = ap stack_of (sym e)

  top_told : (x : Slot) → x ≡ top_slot (stack_at b s).items → x.crate ≡ top_crate b
  top_told x q = ap (λ (y : Slot). y.crate) q ∙ ap (λ z. (top_slot (stack_at b z).items).crate) (sym stack_is)

  -- a retrieval
  pub retrieved : (b' : Bay) (x : Slot) → a ≡ 0 → b' ≡ taken_from b s → x ≡ top_slot (stack_at b s).items → Made b retrieve b' x.crate s
  retrieved b' x z q r =
      record {
        legal = retrieve_legal b s (sym e ∙ ap (λ (n : ℕ). Some (s, n)) z);
        after = q ∙ ap (taken_from b) (sym stack_is);
        crate = top_told x r;
        stack = sym stack_is;
      }

  pub not_retrieved : 0 < a → Left b retrieve b
  not_retrieved p = record { illegal = λ m. let l = legal_retrieve b m in let q = ap (λ (x : ℕ × ℕ). x.1) (same_stack (s, a) (l.0, 0) (e ∙ l.1)) in omega arith; same = refl }

  -- a relocation
  pub relocated_so : (d : ℕ) (b' : Bay) (x : Slot) → a ≢ 0 → true ≡ opens b s d → b' ≡ relocated b s d → x ≡ top_slot (stack_at b s).items → Made b (relocate d) b' x.crate s
  unfolding destinations
  relocated_so d b' x ne o q r =
      let g = opened b s d o in
      let p = spacious b d g.space in
      let m : Mem (suc p.place) (destinations b s) =
      subst (λ z. Mem z (destinations b s)) (omega arith)
      (open_mem s 1 p.place b p.inside (λ z. g.other (omega (arith, p.number))) (subst (λ z. height_at b z < (stack_at b z).clearance) (sym p.number) g.space)) in
      record {
        legal = relocate_legal b d (record { s = s; a = a - 1; is = sym e ∙ ap (λ (n : ℕ). Some (s, n)) (omega arith); opens = subst (λ z. Mem z (destinations b s)) p.number m });
        after = q ∙ ap (λ z. relocated b z d) (sym stack_is);
        crate = top_told x r;
        stack = sym stack_is;
      }

  pub not_relocated : (d : ℕ) → (a ≡ 0) ⊎ (false ≡ opens b s d) → Left b (relocate d) b
  unfolding destinations
  not_relocated d o = record { illegal = λ m. by (legal_relocate b d m) o; same = refl }
    where
      by : Relocates b d → (a ≡ 0) ⊎ (false ≡ opens b s d) → ⊥
      by r (inl z) = let q = ap (λ (x : ℕ × ℕ). x.1) (same_stack (s, a) (r.s, suc r.a) (e ∙ r.is)) in omega arith
      by r (inr f) =
          let q : s ≡ r.s = ap (λ (x : ℕ × ℕ). x.0) (same_stack (s, a) (r.s, suc r.a) (e ∙ r.is)) in
          let p = mem-open r.s 1 d b r.opens in
          let dn : d ≡ suc p.j = omega (arith, p.is) in
          let sp : ltb (height_at b d) (stack_at b d).clearance ≡ true =
          subst (λ z. ltb (height_at b z) (stack_at b z).clearance ≡ true) (sym dn) (lt-ltb _ _ p.space) in
          let t : opens b s d ≡ true = and_from (not (eqb s d)) (has_space (stack_at b d)) (not_from_false (eqb s d) (ne_eqb s d (λ z. p.else (sym z ∙ q)))) sp in
          both_ways (opens b s d) (sym f) t

  -- from a target's stack a crate is carried where it is open
  carries_open : (d : ℕ) → carries b s d ≡ opens b s d
  carries_open d = ap (λ t. t && opens b s d) (lt-ltb 0 (height_at b s) target_high)

  -- what carrying tells of a relocation
  pub relocated_if : (d : ℕ) (b' : Bay) (x : Slot) → a ≢ 0 → x ≡ top_slot (stack_at b s).items → (r : Bool) → r ≡ carries b s d → b' ≡ cond r (relocated b s d) b
      → MatchBool r (Made b (relocate d) b' x.crate s) (Left b (relocate d) b')
  relocated_if d b' x ne q true e f = relocated_so d b' x ne (e ∙ carries_open d) f q
  relocated_if d b' x ne q false e f = subst (Left b (relocate d)) (sym f) (not_relocated d (inr (e ∙ carries_open d)))

pub nothing_told : (b : Bay) → None ≡ target b → (Legal b retrieve → ⊥) × ((d : ℕ) → Legal b (relocate d) → ⊥)
nothing_told b e = (
  λ m. let l = legal_retrieve b m in let z : ◌≡◌ {A = ℕ} 0 1 = cc (e, l.1) in omega arith,
  λ d m. let l = legal_relocate b d m in let z : ◌≡◌ {A = ℕ} 0 1 = cc (e, l.is) in omega arith,
)

-- settling, one retrieval at a time
module _ (b : Bay) (s a : ℕ) (e : Some (s, a) ≡ target b) (z : a ≡ 0) where
  on_top : target b ≡ Some (s, 0)
  on_top = sym e ∙ ap (λ (x : ℕ). Some (s, x)) z

  pub settle_on : settle b ≡ settle (taken_from b s)
  settle_on = settle_out b s on_top

  pub settle_fewer : crates (taken_from b s) < crates b
  settle_fewer = omega (arith, out_fewer b s on_top)

pub settle_ends : (b : Bay) (s a : ℕ) → Some (s, a) ≡ target b → 0 < a → b ≡ settle b
settle_ends b s a e p = sym (settle_still b (subst Still e p))

pub settle_none : (b : Bay) → None ≡ target b → b ≡ settle b
settle_none b e = sym (settle_still b (subst Still e tt))
