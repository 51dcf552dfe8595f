-- What a member leaves where no fault is found in it: its type, its parameters and its result are those of its head.
use Rattle.std.proofs.Common.{◌≡◌, ◌+◌, ◌<◌, ◌≤◌, ◌∷◌, ◌++◌, ◌||◌}
use Rattle.program_laws.proofs.Common.{ℕ, length, map, List, [], Some, None, true, nat_le, Option, refl, ap, sym, ◌∙◌, arith, option_map, list_all, list_any, length-append, leb-false, Shape, EventShape, TypeExpr, Member, Param, stands, Fault, Table, told, param_head, result_head, event_of, type_found, type_by, param_wants, result_given, gives_result, result_stands, param_codes, param_read, is_param_named, is_global_named, when, After, Reads}
use Rattle.type_table.specs.Heads.{result_known}
use Rattle.type_table.specs.Types.{known, known_shape}
use Rattle.stmt_check.specs.Actions.{params_found}
use Rattle.stmt_check.specs.Steps.{◌>>=◌, pure, given, tells, changes, before_all, each, optional}
use Rattle.program_laws.proofs.Shapes.Lists.{both_true, no_both, no_told, no_when}
use Rattle.program_laws.proofs.Shapes.Types.{type_stands}

-- ---- one part behind another

pub bind_faults : {S A B : Type 0} (m : Reads S A) (n : A → Reads S B) (s : S) → ((m >>= n) s).faults ≡ [] → ((m s).faults ≡ []) × ((n (m s).part.part (m s).part.state).faults ≡ [])
unfolding ◌>>=◌
bind_faults m n s none = no_both (m s).faults (n (m s).part.part (m s).part.state).faults none

-- a type without a fault is known
known_by : (faults : List Fault) (s : Shape) → faults ≡ [] → known_shape faults s ≡ Some s
known_by [] s h = refl
known_by (f ∷ faults) s h = cc

pub type_known : (number_of : List ℕ → Option ℕ) (t : TypeExpr) → (type_by number_of t).faults ≡ [] → known (type_by number_of t) ≡ Some (type_by number_of t).part
type_known number_of t none = known_by (type_by number_of t).faults (type_by number_of t).part none

-- ---- parameters

module _ (table : Table) (types : List EventShape) (same : table.types ≡ types) (members : List Member) where
  -- parameters, as their heads say
  pub record ParamsMade (ps : List Param) (shapes : List Shape) : Type 0 where
    pub wants : param_wants (map (param_head (event_of table)) ps) ≡ map (λ s. Some s) shapes
    pub stand : list_all (stands types) shapes ≡ true
    pub long : length shapes ≡ length ps

  param_none : (p : Param) (before : List Param) → (param_read table members p before).faults ≡ [] → ((type_found table p.shape).faults ≡ []) × (length before < 64)
  unfolding ◌>>=◌ given tells changes
  param_none p before none =
      let a = no_both (type_found table p.shape).faults (told p.name.spot (param_codes members before p.name.text) ++ []) none in
      let b = no_both (told p.name.spot (param_codes members before p.name.text)) [] a.1 in
      let c = no_told p.name.spot (param_codes members before p.name.text) b.0 in
      let d = no_both (when (list_any (is_param_named p.name.text) before || list_any (is_global_named p.name.text) members) 1) (when (nat_le 64 (length before)) 4) c in
      (a.0, leb-false 64 (length before) (no_when (nat_le 64 (length before)) 4 d.1))

  param_part : (p : Param) (before : List Param) → (param_read table members p before).part ≡ record { part = (type_found table p.shape).part; state = before ++ p ∷ [] }
  unfolding ◌>>=◌ given tells changes
  param_part p before = refl

  each_params : (ps before : List Param) → (each (map (param_read table members) ps) before).faults ≡ [] → length before ≤ 64 → ParamsMade ps (each (map (param_read table members) ps) before).part.part × (length before + length ps ≤ 64)
  unfolding each before_all pure ◌>>=◌
  each_params [] before none few = (record { wants = refl; stand = refl; long = refl }, omega arith)
  each_params (p ∷ ps) before none few =
      let split = no_both (param_read table members p before).faults (each (map (param_read table members) ps) (param_read table members p before).part.state).faults none in
      let one = param_none p before split.0 in
      let part : (param_read table members p before).part.part ≡ (type_found table p.shape).part = ap (λ (a : After (List Param) Shape). a.part) (param_part p before) in
      let state : (param_read table members p before).part.state ≡ before ++ p ∷ [] = ap (λ (a : After (List Param) Shape). a.state) (param_part p before) in
      let lt = one.1 in
      let long : length (before ++ p ∷ []) ≡ length before + 1 = length-append before (p ∷ []) in
      let far : length (param_read table members p before).part.state ≡ length before + 1 = ap length state ∙ long in
      let rest = each_params ps (param_read table members p before).part.state split.1 (omega (arith, far)) in
      let k = rest.1 in
      let first : known (type_by (event_of table) p.shape) ≡ Some (param_read table members p before).part.part = type_known (event_of table) p.shape one.0 ∙ ap Some (sym part) in
      let e = rest.0.long in (
        record {
          wants = ap (λ (s : Option Shape). s ∷ param_wants (map (param_head (event_of table)) ps)) first ∙ ap (λ (l : List (Option Shape)). Some (param_read table members p before).part.part ∷ l) rest.0.wants;
          stand = both_true (ap (stands types) part ∙ type_stands table types same p.shape one.0) rest.0.stand;
          long = omega (arith, e);
        },
        omega (arith, far, k),
      )

  pub params_made : (ps : List Param) → (params_found table members ps).faults ≡ [] → ParamsMade ps (params_found table members ps).part × (length (params_found table members ps).part ≤ 64)
  unfolding params_found
  params_made ps none =
      let h = each_params ps [] none (omega arith) in
      let a = h.1 in
      let b = h.0.long in
      (h.0, omega (arith, a, b))

  -- ---- results

  -- a result, as its head says
  pub record ResultMade (t : Option TypeExpr) (shape : Option Shape) : Type 0 where
    pub head : result_given (result_head (event_of table) t) ≡ gives_result shape
    pub stands : result_stands types shape ≡ true

  pub result_made : {S : Type 0} (t : Option TypeExpr) (s : S) → (optional (option_map (λ t. given (type_found table t)) t) s).faults ≡ [] → ResultMade t (optional (option_map (λ t. given (type_found table t)) t) s).part.part
  unfolding optional pure given ◌>>=◌
  result_made None s none = record { head = refl; stands = refl }
  result_made (Some t) s none =
      let a = no_both (type_found table t).faults [] none in
      record {
        head = ap (λ (o : Option Shape). result_given (result_known o)) (type_known (event_of table) t a.0);
        stands = type_stands table types same t a.0;
      }

  pub result_state : {S : Type 0} (t : Option TypeExpr) (s : S) → (optional (option_map (λ t. given (type_found table t)) t) s).part.state ≡ s
  unfolding optional pure given ◌>>=◌
  result_state None s = refl
  result_state (Some t) s = refl
