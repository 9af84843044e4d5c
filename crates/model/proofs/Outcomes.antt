-- What the search promises of legal handlings, over every sound bay, honest bound and budget.
use Rattle.std.proofs.Common.{◌≡◌, ℕ, suc, ◌+◌, ◌<◌, ◌≤◌, true, false, List, [], ◌∷◌, length, None, sym, ap, ◌∙◌, subst, arith}
use Rattle.model.specs.Bays.{Bay, Sound}
use Rattle.model.specs.Targets.{target}
use Rattle.model.specs.Moves.{Move, Handles, dests, relocations, settle}
use Rattle.model.specs.Search.{Follows, ways, ways_at, next, from_ways, next_round, Outcome, fewest, at_least, no_way, searched, searched_within, rounds, over, found, deep}
use Rattle.model.specs.Claims.{Honest, Says, UsedUp, Agrees, Unlimited, Promised}
use Rattle.model.proofs.Rounds.{Laws, Right, Meant, round_right, rounds_meant, rounds_same, same_plan, rounds-spent, OnBudget, cut_below}
use Rattle.model.proofs.Settling.{settled, settles}
use Rattle.model.proofs.Handlings.{followed, handled, planned}
use Rattle.model.proofs.Leaving.{brings_out}
use Rattle.model.proofs.Soundness.{sound_settles}
use Rattle.model.proofs.Remaining.{Fine, keeps, falls, left, left_small}

laws : (h : Bay → ℕ) → Honest h → Laws h Fine left 672
unfolding Fine
laws h o =
    record {
      keeps = keeps;
      falls = falls;
      small = λ b f. o.small b f.1;
      honest = λ b ds f w. let p = planned ds b f.0 w in omega (arith, o.honest b f.1 p.moves p.handles, ap length p.along);
    }

fine : (b : Bay) → Sound b → Fine (settle b)
unfolding Fine
fine b so = (settled b, sound_settles (settles b) so)

left_settled : (b : Bay) → Sound b → left (settle b) ≤ 672
left_settled b so = left_small (settle b) (sound_settles (settles b) so)

pub meant : (h : Bay → ℕ) → Honest h → (budget : ℕ) (b : Bay) → Sound b → Meant (settle b) (searched h budget b).0
unfolding searched searched_within
meant h o budget b so =
    rounds_meant h Fine left 672 (laws h o) budget 0 1345 (h (settle b)) (settle b) 0 (fine b so) (omega arith)
    (omega (arith, left_settled b so)) (λ es w. (laws h o).honest (settle b) es (fine b so) w)

pub unlimited : (h : Bay → ℕ) → Honest h → (budget : ℕ) (b : Bay) → Sound b → Unlimited h budget b
unfolding searched searched_within
unlimited h o budget b so r x =
    rounds_same h Fine left 672 (laws h o) budget x 0 (1345 + r) 1345 (h (settle b)) (settle b) 0 (fine b so) (omega arith) (omega arith)
    (omega (arith, left_settled b so)) (omega (arith, left_settled b so))

-- the rounds of a loop end: after one that cut something, the limit is still below 1344
pub limit_below : (h : Bay → ℕ) → Honest h → (budget limit x : ℕ) (b : Bay) → Sound b → (n m : ℕ)
    → deep h budget limit (suc (limit + x)) 0 (settle b) false n ≡ over true m → limit < 1344
limit_below h o budget limit x b so n m e =
    omega (arith, cut_below h Fine left 672 (laws h o) budget limit x (settle b) n m (fine b so) e, left_settled b so)

follows_short : (ds : List ℕ) (b : Bay) → Fine b → Follows b ds → length ds ≤ left b
follows_short [] b f w = omega arith
follows_short (d ∷ ds) b f w =
    omega (arith, follows_short ds (next b d) (keeps b d f w.0) w.1, falls b d f w.0)

-- no plan of a sound bay is longer than 672
pub plan_short : (b : Bay) (ds : List ℕ) → Sound b → Follows (settle b) ds → length ds ≤ 672
plan_short b ds so w = omega (arith, follows_short ds (settle b) (fine b so) w, left_settled b so)

pub handlings_short : (b : Bay) → Sound b → (ms : List Move) → Handles b ms → relocations ms ≤ 672
handlings_short b so ms h = plan_short b (dests ms) so (followed ms b h)

-- what an outcome means for lists of destinations it says of legal handlings
says : (b : Bay) → Sound b → (r : Outcome) → Meant (settle b) r → Says b r
says b so (fewest n ds) m =
    let p = handled b ds m.0 in
    record {
      moves = p.moves;
      handles = p.handles;
      brings_out = brings_out b p.moves so p.handles;
      along = p.along;
      many = ap length p.along ∙ m.1;
      least = λ ms h. m.2 (dests ms) (followed ms b h);
      first = λ ms h e. m.3 (dests ms) (followed ms b h) (omega arith);
    }
says b so (at_least n) m = λ ms h. m (dests ms) (followed ms b h)
says b so no_way m = λ ms h. m (dests ms) (followed ms b h)

used_up : (h : Bay → ℕ) (budget : ℕ) (r : Outcome) (tries : ℕ) → OnBudget h budget r tries → UsedUp budget r tries
used_up h budget (fewest n ds) tries q = tt
used_up h budget (at_least n) tries q = q
used_up h budget no_way tries q = tt

agrees : (h : Bay → ℕ) → Honest h → (budget : ℕ) (b : Bay) → Sound b → (r : Outcome) → (searched h budget b).0 ≡ r → Agrees b r
agrees h o budget b so (fewest n ds) e = λ h' o' budget' tries m es e'.
    let p : Meant (settle b) (fewest n ds) = rw e at (meant h o budget b so) in
    let q : Meant (settle b) (fewest m es) = subst (λ (z : Outcome × ℕ). Meant (settle b) z.0) e' (meant h' o' budget' b so) in
    let same = same_plan (settle b) m n es ds q p in
    (sym q.1 ∙ ap length same ∙ p.1, same)
agrees h o budget b so (at_least n) e = tt
agrees h o budget b so no_way e = tt

-- with no called crate left after settling nothing is tried
searched_none : (h : Bay → ℕ) (budget : ℕ) (b : Bay) → target (settle b) ≡ None → searched h budget b ≡ (fewest 0 [], 0)
unfolding searched searched_within ways
searched_none h budget b e =
    let c = settle b in
    ap (λ o. next_round (h c) (rounds h budget 0 1344 (suc (h c)) c) (from_ways h budget (h c) (deep h budget (h c) (h c + 0)) 0 c o false 0)) (ap (ways_at c) e)

-- all that is promised of a search
pub promised : (h : Bay → ℕ) → Honest h → (budget : ℕ) (b : Bay) → Sound b → (r : Outcome × ℕ) → r ≡ searched h budget b → r.1 ≤ budget → Promised h budget b r.0 r.1
unfolding searched searched_within
promised h o budget b so r e le =
    record {
      says = subst (λ (z : Outcome × ℕ). Says b z.0) (sym e) (says b so (searched h budget b).0 (meant h o budget b so));
      at_once = λ z. let q = e ∙ searched_none h budget b z in (ap (λ (x : Outcome × ℕ). x.0) q, ap (λ (x : Outcome × ℕ). x.1) q);
      within = le;
      used_up = subst (λ (z : Outcome × ℕ). UsedUp budget z.0 z.1) (sym e) (used_up h budget _ _ (rounds-spent h budget 0 1345 (h (settle b)) (settle b) 0));
      agrees = agrees h o budget b so r.0 (sym (ap (λ (z : Outcome × ℕ). z.0) e));
      unlimited = unlimited h o budget b so;
      short = handlings_short b so;
    }

-- a plan that a round found is no longer than 672
pub found_short : (h : Bay → ℕ) → Honest h → (budget limit x : ℕ) (b : Bay) → Sound b → (n m : ℕ) (ds : List ℕ)
    → deep h budget limit (suc (limit + x)) 0 (settle b) false n ≡ found ds m → length ds ≤ 672
found_short h o budget limit x b so n m ds e =
    let r : Right budget limit (settle b) (Follows (settle b)) 0 (left (settle b) + 672) false (found ds m) = rw e at (round_right h Fine left 672 (laws h o) budget limit x (settle b) n (fine b so)) in
    plan_short b ds so r.0
