-- The rounds of the search.
use Rattle.std.proofs.Common.{◌≡◌, ℕ, suc, ◌+◌, ◌-◌, ◌<◌, ◌≤◌, false, List, [], length, None, sym, ap, ◌∙◌, add-one, arith}
use Rattle.std.proofs.lemmas.List.{length-map}
use Rattle.bay.specs.declared.work.WorkBay.{WorkBay}
use Rattle.bay.specs.Shown.{shown}
use Rattle.bay.proofs.Bays.{work_sound}
use Rattle.model.specs.Bays.{Bay}
use Rattle.model.specs.Targets.{target}
use Rattle.model.specs.Moves.{settle}
use Rattle.model.specs.Search.{Round, Outcome, found, deep, fewest, at_least, no_way, searched, searched_within, rounds, next_round}
use Rattle.model.specs.Claims.{Honest, Promised}
use Rattle.model.proofs.Depth.{same_deep}
use Rattle.model.proofs.Loops.{whole_done}
use Rattle.model.proofs.Outcomes.{limit_below, found_short, promised}
use Rattle.search.specs.declared.outcome.Round as code
use Rattle.search.specs.declared.outcome.Ended.{Ended}
use Rattle.search.specs.declared.outcome.Ended.TheVariants.{Found, Spent, Cut, Over}
use Rattle.search.specs.declared.workspace.Frame.{Frame}
use Rattle.search.specs.declared.workspace.TheConstants.{DEEPEST, MOST_RELOCATIONS}
use Rattle.search.specs.Rounds.{round_from, rounds_from}
use Rattle.search.specs.Told.{framed, ended_told, end_told}
use Rattle.search.proofs.Standing.{ways_none}
use Rattle.search.proofs.Trying.{estimate_small}

-- the search begins with the bound of the settled bay c as its limit
pub searched-rounds : (h : Bay → ℕ) (budget : ℕ) (b c : Bay) → c ≡ settle b → searched h budget b ≡ rounds_from h budget 1345 (h c) c 0
unfolding searched searched_within rounds_from
searched-rounds h budget b c e = ap (λ x. rounds h budget 0 1345 (h x) x 0) (sym e)

-- the rule's depth is that of a round
rounded : (h : Bay → ℕ) (budget limit : ℕ) (c : Bay) (n : ℕ) → deep h budget limit (suc (limit + 0)) 0 c false n ≡ round_from h budget limit c n
unfolding round_from
rounded h budget limit c n = same_deep h budget limit (suc (limit + 0)) (suc limit) 0 c false n (omega arith) (omega arith) (omega arith)

pub rounds-step : (h : Bay → ℕ) (budget f limit : ℕ) (c : Bay) (n : ℕ) (r : Round) → r ≡ round_from h budget limit c n
    → rounds_from h budget (suc f) limit c n ≡ next_round limit (rounds_from h budget f (suc limit) c) r
unfolding rounds_from
rounds-step h budget f limit c n r e = ap (next_round limit (rounds h budget 0 f (suc limit) c)) (rounded h budget limit c n ∙ sym e)

-- with no called crate left the answer is fewest 0 after no try
round_done : (h : Bay → ℕ) (budget : ℕ) (c : Bay) → None ≡ target c → found [] 0 ≡ round_from h budget (h c) c 0
unfolding round_from
round_done h budget c q = sym (whole_done h budget (h c) 0 c false 0 (ways_none c q))

pub searched_done : (h : Bay → ℕ) (budget : ℕ) (b c : Bay) → c ≡ settle b → None ≡ target c → (fewest 0 [], 0) ≡ searched h budget b
searched_done h budget b c e q = sym (searched-rounds h budget b c e ∙ rounds-step h budget 1344 (h c) c 0 (found [] 0) (round_done h budget c q))

-- what the search of w comes to, and what is promised of it
pub record Answered (h : Bay → ℕ) (budget : ℕ) (w : WorkBay) (o : Outcome) (n : ℕ) : Type 0 where
  pub value : (o, n) ≡ searched h budget (shown w)
  pub promise : Promised h budget (shown w) o n

answered : {h : Bay → ℕ} → Honest h → {budget : ℕ} {w : WorkBay} {o : Outcome} {n : ℕ} → (o, n) ≡ searched h budget (shown w) → n ≤ budget → Answered h budget w o n
answered {h = h} honest {budget = budget} {w = w} {o = o} {n = n} e l =
    record { value = e; promise = promised h honest budget (shown w) (work_sound w) (o, n) e l }

pub nothing_left : {h : Bay → ℕ} → Honest h → {budget : ℕ} {w : WorkBay} (v : WorkBay) {ds : List ℕ} → shown v ≡ settle (shown w) → None ≡ target (shown v) → ds ≡ []
    → Answered h budget w (fewest 0 ds) 0
nothing_left {h = h} honest {budget = budget} {w = w} v e q d =
    answered honest (ap (λ (l : List ℕ). (fewest 0 l, 0)) d ∙ searched_done h budget (shown w) (shown v) e q) (omega arith)

-- the search of w goes on from the settled bay v with a limit, after so many tries
pub record Rising (h : Bay → ℕ) (budget : ℕ) (w v : WorkBay) (limit n : ℕ) : Type 0 where
  pub honest : Honest h
  pub is : searched h budget (shown w) ≡ rounds_from h budget (suc (DEEPEST + h (shown v) - limit)) limit (shown v) n
  pub settled : shown v ≡ settle (shown w)
  pub low : limit ≤ DEEPEST
  pub above : h (shown v) ≤ limit
  pub tries : n ≤ budget

pub first_limit : {h : Bay → ℕ} → Honest h → {budget : ℕ} {w v : WorkBay} {limit : ℕ} → shown v ≡ settle (shown w) → limit ≡ h (shown v) → Rising h budget w v limit 0
first_limit {h = h} honest {budget = budget} {w = w} {v = v} {limit = limit} e q =
    let fuel : 1345 ≡ suc (DEEPEST + h (shown v) - limit) = omega (arith, q) in
    record {
      honest = honest;
      is =
          searched-rounds h budget (shown w) (shown v) e
          ∙ ap (λ l. rounds_from h budget 1345 l (shown v) 0) (sym q)
          ∙ ap (λ f. rounds_from h budget f limit (shown v) 0) fuel;
      settled = e;
      low = omega (arith, estimate_small h honest v limit q);
      above = omega (arith, q);
      tries = omega arith;
    }

-- the next round ends as r, with the frames fs
module _ {h : Bay → ℕ} {budget : ℕ} {w v : WorkBay} {limit n : ℕ} (u : Rising h budget w v limit n) (r : code.Round) (fs : List Frame) (m : end_told r fs ≡ round_from h budget limit (shown v) n) (l : r.tries ≤ budget) where
  ended_so : {e : Ended} → r.ended ≡ e → ended_told e fs r.tries ≡ round_from h budget limit (shown v) n
  ended_so q = ap (λ z. ended_told z fs r.tries) (sym q) ∙ m

  last_round : {e : Ended} → r.ended ≡ e
      → next_round limit (rounds_from h budget (DEEPEST + h (shown v) - limit) (suc limit) (shown v)) (ended_told e fs r.tries) ≡ searched h budget (shown w)
  last_round {e = e} q = sym (u.is ∙ rounds-step h budget (DEEPEST + h (shown v) - limit) limit (shown v) n (ended_told e fs r.tries) (ended_so q))

  settled_round : {e : Ended} → r.ended ≡ e → deep h budget limit (suc (limit + 0)) 0 (settle (shown w)) false n ≡ ended_told e fs r.tries
  settled_round q = ap (λ b. deep h budget limit (suc (limit + 0)) 0 b false n) (sym u.settled) ∙ rounded h budget limit (shown v) n ∙ sym (ended_so q)

  pub plan_fits : r.ended ≡ Found → length fs ≤ MOST_RELOCATIONS
  plan_fits q =
      omega
      (arith, found_short h u.honest budget limit 0 (shown w) (work_sound w) n r.tries (framed fs) (settled_round q), length-map fs (λ (f : Frame). f.destination))

  pub ends_found : {k : ℕ} {ds : List ℕ} → r.ended ≡ Found → k ≡ length (framed fs) → ds ≡ framed fs → Answered h budget w (fewest k ds) r.tries
  ends_found {k = k} q a b =
      answered u.honest (ap (λ (ds : List ℕ). (fewest k ds, r.tries)) b ∙ ap (λ x. (fewest x (framed fs), r.tries)) a ∙ last_round q) l

  pub ends_spent : r.ended ≡ Spent → Answered h budget w (at_least limit) r.tries
  ends_spent q = answered u.honest (last_round q) l

  pub ends_over : r.ended ≡ Over → Answered h budget w no_way r.tries
  ends_over q = answered u.honest (last_round q) l

  -- after a round that cut something the limit is still below the greatest, and the next round follows
  pub below : r.ended ≡ Cut → limit < DEEPEST
  below q = limit_below h u.honest budget limit 0 (shown w) (work_sound w) n r.tries (settled_round q)

  pub goes_on : r.ended ≡ Cut → Rising h budget w v (limit + 1) r.tries
  goes_on q =
      let fuel : DEEPEST + h (shown v) - limit ≡ suc (DEEPEST + h (shown v) - (limit + 1)) = omega (arith, u.above, below q) in
      record {
        honest = u.honest;
        is =
            sym (last_round q)
            ∙ ap (λ z. rounds_from h budget z (suc limit) (shown v) r.tries) fuel
            ∙ ap (λ z. rounds_from h budget (suc (DEEPEST + h (shown v) - (limit + 1))) z (shown v) r.tries) (sym (add-one limit));
        settled = u.settled;
        low = omega (arith, below q);
        above = omega (arith, u.above);
        tries = l;
      }
