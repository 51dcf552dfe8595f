-- The steps of a place: what they are computed of, one after another, and where they lead to a change in place.
use Rattle.std.proofs.Common.{◌≡◌, ℕ, ◌+◌, ◌≤◌, ◌<◌, List, [], ◌∷◌, ◌++◌, length, map, drop, get_or, Ok, Err, ap}
use Rattle.action_host.specs.Told.{Told}
use Rattle.body_meaning.specs.declared.run.Frame.{Frame}
use Rattle.body_meaning.specs.declared.run.Move.{Move}
use Rattle.body_meaning.specs.Runs.{M, ◌>>=◌, pure, all_behind}
use Rattle.body_meaning.specs.Expressions.{Reach}
use Rattle.body_meaning.specs.Statements.{move_of, moves_in}
use Rattle.walk_rules.specs.declared.stop.Stop.{Stop}
use Rattle.walk_rules.specs.Ran.{Walks, Leads}
use Rattle.walk_rules.proofs.Running.{walks_pure}
use Rattle.walk_rules.proofs.Leading.{leads_same, leads_walks, next_mapped, none_mapped}
use Rattle.path_bases.specs.Tells.{Tells}
use Rattle.walk_laws.proofs.Telling.{leads_bind_tells, leads_stop_tells}

module _ {X : Type 0} (F : X → Reach) (moves : List Move) (items : List X) (i : ℕ) (x : X) (within : i < length items) (is : x ≡ get_or items i x) {m : M (List Move)} {t t1 : Told} {f f1 : Frame} (leads : Leads m t f (all_behind moves (moves_in (map F (drop i items)))) t1 f1) where
  placed : Move → M (List Move)
  placed to = all_behind (moves ++ to ∷ []) (moves_in (map F (drop (i + 1) items)))

  moves_now : Leads m t f (move_of (F x).move >>= placed) t1 f1
  unfolding placed
  moves_now = leads_same (ap (λ rs. all_behind moves (moves_in rs)) (next_mapped F items i x within is)) leads

  -- one more step of the place
  pub moves_step : {to : Move} {t2 : Told} {f2 : Frame} → Tells (move_of (F x).move) t1 f1 t2 f2 (Ok to) → Leads m t f (all_behind (moves ++ to ∷ []) (moves_in (map F (drop (i + 1) items)))) t2 f2
  unfolding placed
  moves_step a = leads_bind_tells placed moves_now a

  -- where a step stops, all stop
  pub moves_stop : {stop : Stop} {t2 : Told} {f2 : Frame} → Tells (move_of (F x).move) t1 f1 t2 f2 (Err stop) → Tells m t f t2 f2 (Err stop)
  moves_stop a = leads_stop_tells placed moves_now a

-- behind the last step
pub moves_end : {X : Type 0} (F : X → Reach) (moves : List Move) (items : List X) (i : ℕ) {m : M (List Move)} {t t1 : Told} {f f1 : Frame} → length items ≤ i → Leads m t f (all_behind moves (moves_in (map F (drop i items)))) t1 f1 → Walks m t f t1 f1 (Ok moves)
moves_end F moves items i past leads = leads_walks (leads_same (ap (λ rs. all_behind moves (moves_in rs)) (none_mapped F items i past)) leads) (walks_pure moves _ _)
