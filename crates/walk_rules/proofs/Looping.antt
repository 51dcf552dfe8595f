-- Loops that test, and loops over values.
use Rattle.std.proofs.Common.{◌≡◌, ◌+◌, ◌≤◌, ◌<◌}
use Rattle.walk_rules.proofs.Common.{ℕ, zero, suc, true, false, List, [], length, drop, get_or, Some, None, Ok, Err, refl, sym, ap, ◌∙◌, arith, drop_all, Value, Told, Flow, Next, Frame, nothing, M, choose, set_local, truth_of, unless, Stop, state_of, Walks, Leads}
use Rattle.std.proofs.Math.ListN.{length-set}
use Rattle.std.proofs.lemmas.List.{drop-set-lt}
use Rattle.std.specs.Prelude.{slice_set}
use Rattle.body_meaning.specs.Runs.{◌>>=◌, ◌>>◌, pure, charge, change}
use Rattle.body_meaning.specs.Statements.{again, turn_end, turns, while_of, each}
use Rattle.walk_rules.specs.Ran.{Turning}
use Rattle.walk_rules.proofs.Running.{append_nil, walks_pure}
use Rattle.walk_rules.proofs.Binding.{walks_bind, walks_bind_err, walks_seq, walks_seq_err, walks_true, walks_false}
use Rattle.walk_rules.proofs.Leading.{behind_nothing, leads_bind, leads_same, leads_walks, next_item, walks_some}

-- ---- loops over values

module _ (n : ℕ) (body : M Flow) (values : List Value) (i : ℕ) (v : Value) {m : M Flow} {t t1 : Told} {f f1 : Frame} (within : i < length values) (is : v ≡ get_or values i v) (leads : Leads m t f (each n (drop i values) body) t1 f1) where
  each_now : Leads m t f (charge 1 >> change (set_local n v) >> body >>= again (each n (drop (i + 1) values) body)) t1 f1
  each_now = leads_same (ap (λ l. each n l body) (next_item values i v within is)) leads

  module _ {t2 t4 : Told} {f2 f4 : Frame} (paid : Walks (charge 1) t1 f1 t2 f1 (Ok tt)) (stored : Walks (change (set_local n v)) t2 f1 t2 f2 (Ok tt)) where
    pub each_step : {flow : Flow} → Walks body t2 f2 t4 f4 (Ok flow) → None ≡ turn_end flow → Leads m t f (each n (drop (i + 1) values) body) t4 f4
    each_step ran on = leads_same (ap (λ o. unless o (each n (drop (i + 1) values) body)) (sym on)) (leads_bind _ each_now (walks_seq (walks_seq paid stored) ran))

    pub each_out : {flow end : Flow} → Walks body t2 f2 t4 f4 (Ok flow) → Some end ≡ turn_end flow → Walks m t f t4 f4 (Ok end)
    each_out ran out = leads_walks each_now (walks_bind _ (walks_seq (walks_seq paid stored) ran) (walks_some _ out))

    pub each_stop : {stop : Stop} → Walks body t2 f2 t4 f4 (Err stop) → Walks m t f t4 f4 (Err stop)
    each_stop ran = leads_walks each_now (walks_bind_err _ (walks_seq (walks_seq paid stored) ran))

  pub each_unpaid : {t2 : Told} {f2 : Frame} {stop : Stop} → Walks (charge 1) t1 f1 t2 f2 (Err stop) → Walks m t f t2 f2 (Err stop)
  each_unpaid unpaid = leads_walks each_now (walks_bind_err _ (walks_seq_err _ (walks_seq_err _ unpaid)))

  pub each_unstored : {t2 : Told} {f2 : Frame} {stop : Stop} → Walks (charge 1) t1 f1 t2 f1 (Ok tt) → Walks (change (set_local n v)) t2 f1 t2 f2 (Err stop) → Walks m t f t2 f2 (Err stop)
  each_unstored paid stored = leads_walks each_now (walks_bind_err _ (walks_seq_err _ (walks_seq paid stored)))

pub each_end : (n : ℕ) (body : M Flow) (values : List Value) (i : ℕ) {m : M Flow} {t t1 : Told} {f f1 : Frame} → length values ≤ i → Leads m t f (each n (drop i values) body) t1 f1 → Walks m t f t1 f1 (Ok Next)
each_end n body values i past leads = leads_walks (leads_same (ap (λ l. each n l body) (drop_all i values past)) leads) (walks_pure Next _ _)

-- a value that was taken out of a place behind isn't missed
pub each_kept : (n : ℕ) (body : M Flow) (values values' : List Value) (i count : ℕ) (hole : Value) {m : M Flow} {t t1 : Told} {f f1 : Frame} → values' ≡ slice_set values i hole → length values ≡ count
    → Leads m t f (each n (drop (i + 1) values) body) t1 f1 → (length values' ≡ count) × Leads m t f (each n (drop (i + 1) values') body) t1 f1
each_kept n body values values' i count hole is long leads =
    (ap length is ∙ length-set values i hole ∙ long, leads_same (ap (λ l. each n l body) (sym (ap (drop (i + 1)) is ∙ drop-set-lt (i + 1) values i hole (omega arith)))) leads)

-- ---- loops that test

module _ (test : M Value) (body : M Flow) where
  turn : M Flow → M Flow
  turn rest = charge 1 >> test >>= (λ v. choose (truth_of v) (body >>= again rest) (pure Next))

  pub turning_start : (t : Told) (f : Frame) → Turning test body t f t f
  unfolding while_of
  turning_start t f = record {
    left = suc t.scene.fuel;
    enough = omega arith;
    leads = record { draws = []; did = nothing; drawn = append_nil t.drawn; taken = append_nil t.taken; gives = λ rest. behind_nothing (turns (suc t.scene.fuel) test body (state_of t rest f)); falls = omega arith; stands = refl };
  }

  unroll : {t t1 : Told} {f f1 : Frame} (left : ℕ) → t1.scene.fuel < left → Leads (while_of test body) t f (turns left test body) t1 f1 → (k : ℕ) × (t1.scene.fuel ≤ k) × Leads (while_of test body) t f (turn (turns k test body)) t1 f1
  unfolding turns turn
  unroll zero enough leads = absurd (omega arith)
  unroll (suc k) enough leads = (k, omega arith, leads)

  pub turning_unpaid : {stop : Stop} {t t1 t2 : Told} {f f1 f2 : Frame} → Turning test body t f t1 f1 → Walks (charge 1) t1 f1 t2 f2 (Err stop) → Walks (while_of test body) t f t2 f2 (Err stop)
  unfolding turn
  turning_unpaid at unpaid = let u = unroll at.left at.enough at.leads in leads_walks u.2 (walks_bind_err _ (walks_seq_err _ unpaid))

  module _ {t t1 t2 t3 : Told} {f f1 f3 : Frame} (at : Turning test body t f t1 f1) where
    pub turning_next : {v : Value} {flow : Flow} {t4 : Told} {f4 : Frame} → Walks (charge 1) t1 f1 t2 f1 (Ok tt) → t2.scene.fuel + 1 ≡ t1.scene.fuel → Walks test t2 f1 t3 f3 (Ok v) → true ≡ truth_of v
        → Walks body t3 f3 t4 f4 (Ok flow) → None ≡ turn_end flow → Turning test body t f t4 f4
    unfolding turn
    turning_next {v} {flow} paid less tested holds ran on =
        let u = unroll at.left at.enough at.leads in
        let a = leads_bind _ u.2 (walks_seq paid tested) in
        let b = leads_same (ap (λ b. choose b (body >>= again (turns u.0 test body)) (pure Next)) (sym holds)) a in
        let c = leads_bind _ b ran in
        record {
          left = u.0;
          enough = omega (arith, u.1, less, tested.does.falls, ran.does.falls);
          leads = leads_same (ap (λ o. unless o (turns u.0 test body)) (sym on)) c;
        }

    pub turning_out : {v : Value} {flow end : Flow} {t4 : Told} {f4 : Frame} → Walks (charge 1) t1 f1 t2 f1 (Ok tt) → Walks test t2 f1 t3 f3 (Ok v) → true ≡ truth_of v
        → Walks body t3 f3 t4 f4 (Ok flow) → Some end ≡ turn_end flow → Walks (while_of test body) t f t4 f4 (Ok end)
    unfolding turn
    turning_out {v} {flow} {end} paid tested holds ran out =
        let u = unroll at.left at.enough at.leads in
        leads_walks u.2 (walks_bind _ (walks_seq paid tested) (walks_true _ holds (walks_bind _ ran (walks_some _ out))))

    pub turning_false : {v : Value} → Walks (charge 1) t1 f1 t2 f1 (Ok tt) → Walks test t2 f1 t3 f3 (Ok v) → false ≡ truth_of v → Walks (while_of test body) t f t3 f3 (Ok Next)
    unfolding turn
    turning_false paid tested fails = let u = unroll at.left at.enough at.leads in leads_walks u.2 (walks_bind _ (walks_seq paid tested) (walks_false _ fails (walks_pure _ _ _)))

    pub turning_untested : {stop : Stop} → Walks (charge 1) t1 f1 t2 f1 (Ok tt) → Walks test t2 f1 t3 f3 (Err stop) → Walks (while_of test body) t f t3 f3 (Err stop)
    unfolding turn
    turning_untested paid tested = let u = unroll at.left at.enough at.leads in leads_walks u.2 (walks_bind_err _ (walks_seq paid tested))

    pub turning_stop : {v : Value} {stop : Stop} {t4 : Told} {f4 : Frame} → Walks (charge 1) t1 f1 t2 f1 (Ok tt) → Walks test t2 f1 t3 f3 (Ok v) → true ≡ truth_of v
        → Walks body t3 f3 t4 f4 (Err stop) → Walks (while_of test body) t f t4 f4 (Err stop)
    unfolding turn
    turning_stop paid tested holds ran = let u = unroll at.left at.enough at.leads in leads_walks u.2 (walks_bind _ (walks_seq paid tested) (walks_true _ holds (walks_bind_err _ ran)))
