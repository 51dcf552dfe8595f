-- Expressions, places, locals and blocks of a body.
use Rattle.std.proofs.Common.{◌≡◌, ℕ, ◌+◌, true, false, List, [], ◌∷◌, ◌++◌, map, length, take, Option, Some, None, refl, sym, ap, subst, ◌∙◌}
use Rattle.std.specs.List.{AllByRecursion}
use Rattle.std.specs.Option.{option_map}
use Rattle.std.specs.Str.{bytes_eq}
use Rattle.std.proofs.lemmas.Slice.Eq.{bytes_eq-Decides}
use Rattle.span_text.specs.declared.spot.Spot.{Spot}
use Rattle.epl_values.specs.declared.shape.Shape.{Shape}
use Rattle.epl_tree.specs.declared.expression.Expr.{Expr}
use Rattle.epl_tree.specs.declared.expression.Suffix.{Suffix}
use Rattle.epl_tree.specs.declared.name.Name.{Name}
use Rattle.epl_tree.specs.declared.statement.Place.{Place}
use Rattle.typed_program.specs.declared.expression.TypedEntry.{TypedEntry}
use Rattle.typed_program.specs.declared.expression.TypedExpr.{TypedExpr, TypedExpr-F, roll-TypedExpr, out-TypedExpr, out-roll-TypedExpr}
use Rattle.typed_program.specs.declared.expression.TypedLink.{TypedLink}
use Rattle.typed_program.specs.declared.expression.TypedNode.{TypedNode, out-TypedNode}
use Rattle.typed_program.specs.declared.expression.TypedSuffix.{TypedSuffix}
use Rattle.typed_program.specs.declared.expression.TypedSuffixNode.{TypedSuffixNode}
use Rattle.typed_program.specs.declared.program.Site.{Site}
use Rattle.typed_program.specs.declared.statement.Variable.{Variable}
use Rattle.typed_program.specs.declared.statement.Variable.TheVariants as var
use Rattle.type_table.specs.declared.scope.Seen.{Seen}
use Rattle.type_table.specs.declared.scope.SeenKind.{SeenKind}
use Rattle.type_table.specs.declared.table.ParamHead.{ParamHead}
use Rattle.type_table.specs.Found.{Found}
use Rattle.type_table.specs.Scopes.{with_seen}
use Rattle.expr_rules.specs.declared.placed.Gives.TheVariants as gives
use Rattle.expr_rules.specs.declared.placed.Judged.{Judged}
use Rattle.expr_rules.specs.declared.steps.Walk.{Walk}
use Rattle.expr_rules.specs.Asked.{Demand, assigned}
use Rattle.expr_rules.specs.Calls.{arguments_found, no_arguments, call_paths, param_wants, items_of, typed_arguments}
use Rattle.expr_rules.specs.Names.{seen, outer_code, variable, root_of, name_found}
use Rattle.expr_rules.specs.Places.{known, placed, judged, shape_given}
use Rattle.expr_rules.specs.Postfix.{leads, demand_before, walk_start, walked_from, walk_found}
use Rattle.expr_check.specs.declared.check.Target.{Target}
use Rattle.expr_check.specs.Checks.{variable_layer, target_at, target_of, target, place_found}
use Rattle.expr_check.specs.Expressions.{part_of, step_of, typed_of, expr_found}
use Rattle.stmt_check.specs.declared.state.State.{State}
use Rattle.stmt_check.specs.Bodies.{known_shape, counted, name_read, seen_local, with_local, local_read, left, scoped}
use Rattle.stmt_check.specs.Bodies.{Around as Body}
use Rattle.stmt_check.specs.Captures.{Names, any_of, expr_names, suffix_names, place_names}
use Rattle.stmt_check.specs.Statements.{reads, args_read, maybe_read}
use Rattle.stmt_check.specs.Steps.{After, Reads, ◌>>=◌, pure, looks, tells, changes, within, optional}
use Rattle.name_resolution.specs.Names.{Named, Meant, Around, held, meaning_of}
use Rattle.name_resolution.specs.Expressions.{form_of, typed_form, shape_of, variable_form, ExprIs, ExprsAre, StepsAre}
use Rattle.name_resolution.specs.Statements.{Here, shape_or_integer, leaving, PlaceIs, MaybeIs}
use Rattle.name_resolution.specs.Statements.{with_local as local_more}
use Rattle.name_resolution.specs.Statements as rule
use Rattle.name_resolution.proofs.Sure.{Sure, sure_sound, sure_then, sure_as}
use Rattle.name_resolution.proofs.Agreeing.{Agrees, ActionsAgree, variable_by, meant_by, agrees_fewer, agrees_left, agrees_right, agrees_first, agrees_rest, agrees_all}
use Rattle.name_resolution.proofs.Judging.{Is, plain_at, placed_shape, placed_own}
use Rattle.name_resolution.proofs.Judging.{Reads as PartReads}
use Rattle.name_resolution.proofs.Values.{arguments_are, known_given, variable_is}
use Rattle.name_resolution.proofs.Steps.{Walked, walked_is}
use Rattle.name_resolution.proofs.Steps.{StepsRead}
use Rattle.name_resolution.proofs.Trees.{expr_reads, step_reads}
use Rattle.name_resolution.proofs.Claims.{by_seen, meaning_mapped, agrees_more, agrees_at, Grown, grown_same, extends_same, Matches, Ready, Claim, Still, claim_looks, claim_behind, claim_pure}
pub use Rattle.name_resolution.proofs.Bodies.{Fit}

-- the names of a part are among those that are known
abbrev pub Within : Names → Names → Type 0
Within few more = (name : List ℕ) → few name ≡ true → more name ≡ true

take_front : {A : Type 0} (xs ys : List A) → take (length xs) (xs ++ ys) ≡ xs
take_front [] ys = refl
take_front {A = A} (x ∷ xs) ys = ap (λ (l : List A). x ∷ l) (take_front xs ys)

shape_same : (o : Option Shape) → shape_or_integer o ≡ known_shape o
shape_same (Some s) = refl
shape_same None = refl

layer_of : (v : Variable) → variable_layer (variable_form v) ≡ v
layer_of (var.Global n) = refl
layer_of (var.Local n) = refl

module _ (around : Around) (sites : List Site) (monitor : ℕ) (named : Names) (callbacks : ℕ) (body : Body) (fit : Fit around monitor callbacks body) where
  abbrev C : {A : Type 0} → (A → Here → Here → Type 0) → State → Found (After State A) → Type 0
  C P s found = Claim sites monitor named callbacks P s found

  acts_at : (s : State) → Ready sites monitor s → ActionsAgree body.table s.scope around.actions around.first
  acts_at s r = fit.acts s.scope r.own r.actions

  fewer : (h : Here) (s : State) (few : Names) → Within few named → Matches named h s → Agrees h.names s.scope few
  fewer h s few within m = agrees_fewer h.names s.scope few named within m.names

  -- ---- expressions

  pub expr_at : (demand : Demand) → demand.signed ≡ false → (e : Expr) → Within (expr_names e) named → (s : State) (h : Here) → (expr_found body.table s.scope e demand).faults ≡ [] → Ready sites monitor s → Matches named h s → ExprIs around h.names e (expr_found body.table s.scope e demand).part
  expr_at demand plain e within s h none r m =
      let found = sure_then (Is around h.names e) (λ x. ExprIs around h.names e x) (part_of body.table s.scope e demand) typed_of
      (plain_at around h.names e (part_of body.table s.scope e) demand plain (expr_reads body.table s.scope around h.names fit.types (acts_at s r) e (fewer h s (expr_names e) within m)))
      (λ j is. sure_sound (λ x. ExprIs around h.names e x) j.typed is) in
      found.where_clear none

  abbrev pub ExprAt : Expr → TypedExpr → Here → Type 0
  ExprAt e x h = ExprIs around h.names e x

  pub reads_claim : (demand : Demand) → demand.signed ≡ false → (e : Expr) → Within (expr_names e) named → (s : State) → C (Still sites monitor named callbacks (ExprAt e)) s (reads body.table demand e s)
  reads_claim demand plain e within s = claim_looks sites monitor named callbacks (ExprAt e) (λ t. expr_found body.table t.scope e demand) s (λ h none r m. expr_at demand plain e within s h none r m)

  -- an expression that may be there
  abbrev pub MaybeAt : Option Expr → Option TypedExpr → Here → Type 0
  MaybeAt e x h = MaybeIs around h.names e x

  pub maybe_claim : (demand : Demand) → demand.signed ≡ false → (e : Option Expr) → ((f : Expr) → e ≡ Some f → Within (expr_names f) named) → (s : State) → C (Still sites monitor named callbacks (MaybeAt e)) s (maybe_read body.table demand e s)
  unfolding optional
  maybe_claim demand plain None within s = claim_pure sites monitor named callbacks (Still sites monitor named callbacks (MaybeAt None)) None s (λ h m. (refl, rule.no_expr))
  maybe_claim demand plain (Some e) within s =
      let m = reads body.table demand e in
      claim_behind sites monitor named callbacks (ExprAt e) (λ y h k. (h ≡ k) × (y ≡ Some (m s).part.part)) (Still sites monitor named callbacks (MaybeAt (Some e))) m (λ x. pure (Some x)) s
      (reads_claim demand plain e (within e refl) s)
      (claim_pure sites monitor named callbacks (λ y h k. (h ≡ k) × (y ≡ Some (m s).part.part)) (Some (m s).part.part) (m s).part.state (λ h k. (refl, refl)))
      (λ a c y p q. (q.0, subst (λ (o : Option TypedExpr). MaybeAt (Some e) o a) (sym q.1) (rule.an_expr p)))

  -- arguments
  all_exprs : (s : State) (h : Here) → Ready sites monitor s → (es : List Expr) → AllByRecursion (λ e. Agrees h.names s.scope (expr_names e) → PartReads around h.names (form_of e) (part_of body.table s.scope e)) es
  all_exprs s h r [] = tt
  all_exprs s h r (e ∷ es) = (expr_reads body.table s.scope around h.names fit.types (acts_at s r) e, all_exprs s h r es)

  abbrev pub ExprsAt : List Expr → List TypedExpr → Here → Type 0
  ExprsAt es xs h = ExprsAre around h.names es xs

  args_at : (params : List ParamHead) (es : List Expr) → Within (any_of (map expr_names es)) named → (s : State) (h : Here) → (typed_arguments false params (map (part_of body.table s.scope) es)).faults ≡ [] → Ready sites monitor s → Matches named h s → ExprsAre around h.names es (typed_arguments false params (map (part_of body.table s.scope) es)).part
  args_at params es within s h none r m =
      let found = sure_then (λ a. ExprsAre around h.names es a.items) (λ xs. ExprsAre around h.names es xs) (arguments_found (no_arguments (call_paths false) (param_wants params)) (map (part_of body.table s.scope) es)) items_of
      (arguments_are around h.names es (part_of body.table s.scope) (no_arguments (call_paths false) (param_wants params)) refl (agrees_all h.names s.scope (λ e. PartReads around h.names (form_of e) (part_of body.table s.scope e)) expr_names es (all_exprs s h r es) (fewer h s (any_of (map expr_names es)) within m)))
      (λ a is. sure_sound (λ xs. ExprsAre around h.names es xs) a.items is) in
      found.where_clear none

  pub args_claim : (params : List ParamHead) (es : List Expr) → Within (any_of (map expr_names es)) named → (s : State) → C (Still sites monitor named callbacks (ExprsAt es)) s (args_read body.table params es s)
  args_claim params es within s = claim_looks sites monitor named callbacks (ExprsAt es) (λ t. typed_arguments false params (map (part_of body.table t.scope) es)) s (λ h none r m. args_at params es within s h none r m)

  -- ---- places

  record Means (names : List Named) (name : List ℕ) (j : Judged) : Type 0 where
    meant : Meant
    there : meaning_of names name ≡ Some meant
    shaped : shape_of j.typed ≡ meant.shape
    made : typed_form j.typed ≡ variable_form meant.variable

  name_made : (names : List Named) (name : List ℕ) (s : Seen) (o : Option Shape) → meaning_of names name ≡ Some (meant_by s) → o ≡ shape_given (known s.shape) → Means names name (record { typed = roll-TypedExpr record { shape = o; node = variable s.kind s.number }; root = Some (root_of s); signed = false })
  name_made names name s o h is =
      let out = out-roll-TypedExpr (record { shape = o; node = variable s.kind s.number }) in
      record {
        meant = meant_by s;
        there = h;
        shaped = ap (λ (e : TypedExpr-F TypedNode TypedSuffixNode TypedEntry TypedExpr TypedLink TypedSuffix). e.shape) out ∙ is ∙ known_given around names s.shape;
        made = ap (λ (e : TypedExpr-F TypedNode TypedSuffixNode TypedEntry TypedExpr TypedLink TypedSuffix). out-TypedNode e.node) out ∙ variable_is around names s.kind s.number;
      }

  name_means : (names : List Named) (name : List ℕ) (spot : Spot) (d : Demand) (o : Option Seen) → meaning_of names name ≡ option_map meant_by o → Sure (Means names name) (name_found spot d o)
  name_means names name spot d (Some s) h =
      sure_then (λ o. o ≡ shape_given (known s.shape)) (Means names name) (placed spot d (outer_code s.kind s.shape) (Some (root_of s)) (known s.shape)) (judged (Some (root_of s)) (variable s.kind s.number)) (placed_shape spot d (outer_code s.kind s.shape) (Some (root_of s)) (known s.shape))
      (λ o is. sure_sound (Means names name) (record { typed = roll-TypedExpr record { shape = o; node = variable s.kind s.number }; root = Some (root_of s); signed = false }) (name_made names name s o h is))
  name_means names name spot d None h =
      sure_then (λ o. Some 6 ≡ None) (Means names name) (placed spot d (Some 6) None gives.Unknown) (judged None _) (placed_own spot d (Some 6) None gives.Unknown)
      (λ o none. absurd (cc))

  all_steps : (s : State) (h : Here) → Ready sites monitor s → (us : List Suffix) → Agrees h.names s.scope (any_of (map suffix_names us)) → StepsRead around h.names (step_of body.table s.scope) us
  all_steps s h r [] k = tt
  all_steps s h r (u ∷ us) k = (step_reads body.table s.scope around h.names fit.types (acts_at s r) u (agrees_first h.names s.scope (suffix_names u) (map suffix_names us) k), all_steps s h r us (agrees_rest h.names s.scope (suffix_names u) (map suffix_names us) k))

  target_variable : (v : Variable) (ys : List TypedSuffix) (o : Option Shape) → (target_at v ys o).place.variable ≡ v
  target_variable v ys None = refl
  target_variable v ys (Some s) = refl

  target_steps : (v : Variable) (ys : List TypedSuffix) (o : Option Shape) → (target_at v ys o).place.steps ≡ ys
  target_steps v ys None = refl
  target_steps v ys (Some s) = refl

  abbrev TargetIs : List Named → Place → Target → Type 0
  TargetIs names p t = PlaceIs around names p t.place

  target_made : (names : List Named) (p : Place) (j : Judged) (walk : Walk) → Means names p.name j → Walked around names p.steps (walk_start j) walk → TargetIs names p (target_of walk)
  target_made names p j walk m w =
      let v = variable_layer (out-TypedNode (out-TypedExpr walk.first).node) in
      record {
        meant = m.meant;
        there = m.there;
        variable = target_variable v walk.suffixes walk.shape ∙ ap (λ (x : TypedExpr). variable_layer (typed_form x)) w.first ∙ ap variable_layer m.made ∙ layer_of m.meant.variable;
        steps = subst (λ (ys : List TypedSuffix). StepsAre around names m.meant.shape p.steps ys) (sym (target_steps v walk.suffixes walk.shape ∙ w.behind)) (subst (λ (o : Option Shape). StepsAre around names o p.steps w.found) m.shaped w.good);
      }

  place_at : (p : Place) → Within (place_names p) named → (s : State) (h : Here) → (place_found body.table s.scope p).faults ≡ [] → Ready sites monitor s → Matches named h s → TargetIs h.names p (place_found body.table s.scope p).part
  place_at p within s h none r m =
      let steps = map (step_of body.table s.scope) p.steps in
      let changed = leads true (map (λ s. s.kind) steps) in
      let before = demand_before changed assigned (length steps) in
      let known_here = fewer h s (place_names p) within m in
      let first = agrees_left h.names s.scope (bytes_eq p.name) (any_of (map suffix_names p.steps)) known_here in
      let found = sure_then (λ walk. TargetIs h.names p (target_of walk)) (TargetIs h.names p) (walk_found changed (λ demand. name_found p.spot demand (seen s.scope p.name)) steps p.spot assigned) target
      (sure_then (Means h.names p.name) (λ walk. TargetIs h.names p (target_of walk)) (name_found p.spot before (seen s.scope p.name)) (walked_from p.spot changed assigned steps)
      (name_means h.names p.name p.spot before (seen s.scope p.name) (first.same p.name ((bytes_eq-Decides p.name p.name).1 refl)))
      (λ j is. sure_as (Walked around h.names p.steps (walk_start j)) (λ walk. TargetIs h.names p (target_of walk)) (walked_from p.spot changed assigned steps j) (λ walk w. target_made h.names p j walk is w)
      (walked_is around h.names (step_of body.table s.scope) p.spot changed assigned p.steps j (all_steps s h r p.steps (agrees_right h.names s.scope (bytes_eq p.name) (any_of (map suffix_names p.steps)) known_here)))))
      (λ walk t. sure_sound (TargetIs h.names p) (target_of walk) t) in
      found.where_clear none

  abbrev pub PlaceAt : Place → Target → Here → Type 0
  PlaceAt p t h = PlaceIs around h.names p t.place

  pub place_claim : (p : Place) → Within (place_names p) named → (s : State) → C (Still sites monitor named callbacks (PlaceAt p)) s (looks (λ t. place_found body.table t.scope p) s)
  place_claim p within s = claim_looks sites monitor named callbacks (PlaceAt p) (λ t. place_found body.table t.scope p) s (λ h none r m. place_at p within s h none r m)

  -- ---- locals

  counted_matches : (h : Here) (s : State) → Matches named h s → Matches named h (counted s)
  counted_matches h s m = record { names = m.names; next = m.next; locals = m.locals }

  pub name_claim : (name : Name) (s : State) → C (λ x h k. h ≡ k) s (name_read name s)
  unfolding ◌>>=◌ tells changes
  name_claim name s = record {
    grows = grown_same s.scope.names;
    own = refl;
    actions = refl;
    sites = extends_same s.sites;
    holds = λ h none fits r m. record { after = h; good = refl; matches = counted_matches h s m };
  }

  abbrev pub LocalMore : List ℕ → Option Shape → ℕ → Here → Here → Type 0
  LocalMore name o n h k = (n ≡ h.next) × (k ≡ local_more h name o)

  more_named : (kind : SeenKind) (name : List ℕ) (o : Option Shape) (h : Here) (s : State) → h.next ≡ s.next → variable_by kind s.next ≡ var.Local s.next → record { name = name; meant = record { variable = var.Local h.next; shape = o } } ∷ [] ≡ map by_seen (seen_local kind name o s ∷ [])
  more_named kind name o h s is fixed = ap (λ (v : Variable). let n : Named = record { name = name; meant = record { variable = v; shape = o } } in n ∷ []) (ap (λ (n : ℕ). var.Local n) is ∙ sym fixed)

  local_matches : (kind : SeenKind) (name : List ℕ) (o : Option Shape) (h : Here) (s : State) → variable_by kind s.next ≡ var.Local s.next → Matches named h s → Matches named (local_more h name o) (with_local kind name o s)
  local_matches kind name o h s fixed m = record {
    names = agrees_more h.names s.scope (with_seen s.scope (seen_local kind name o s)) (seen_local kind name o s ∷ []) (record { name = name; meant = record { variable = var.Local h.next; shape = o } } ∷ []) named refl
        (λ other. ap (λ (l : List Named). meaning_of l other) (more_named kind name o h s m.next fixed) ∙ meaning_mapped (seen_local kind name o s ∷ []) other) m.names;
    next = ap (λ (n : ℕ). held (n + 1)) m.next;
    locals = ap (λ (l : List Shape). l ++ shape_or_integer o ∷ []) m.locals ∙ ap (λ (x : Shape). s.locals ++ x ∷ []) (shape_same o);
  }

  pub local_claim : (kind : SeenKind) (name : List ℕ) (o : Option Shape) → ((n : ℕ) → variable_by kind n ≡ var.Local n) → (s : State) → C (LocalMore name o) s (local_read kind name o s)
  unfolding changes
  local_claim kind name o fixed s = record {
    grows = record { more = seen_local kind name o s ∷ []; are = refl };
    own = refl;
    actions = refl;
    sites = extends_same s.sites;
    holds = λ h none fits r m. record { after = local_more h name o; good = (sym m.next, refl); matches = local_matches kind name o h s (fixed s.next) m };
  }

  -- ---- blocks

  left_names : (s t : State) → Grown s.scope.names t.scope.names → (left s t).scope.names ≡ s.scope.names
  left_names s t g = ap (λ (l : List Seen). take (length s.scope.names) l) g.are ∙ take_front s.scope.names g.more

  abbrev pub Left : {A : Type 0} → (A → Here → Here → Type 0) → A → Here → Here → Type 0
  Left P x h k = (inside : Here) × P x h inside × (k ≡ leaving h inside)

  pub scoped_claim : {A : Type 0} (P : A → Here → Here → Type 0) (m : Reads State A) (s : State) → C P s (m s) → C (Left P) s (scoped m s)
  unfolding within
  scoped_claim P m s c = record {
    grows = subst (λ (l : List Seen). Grown s.scope.names l) (sym (left_names s (m s).part.state c.grows)) (grown_same s.scope.names);
    own = c.own;
    actions = c.actions;
    sites = c.sites;
    holds = λ h none fits r matches.
        let held = c.holds h none (record { at = fits.at }) r matches in
        let after = held.matches in
        record {
          after = leaving h held.after;
          good = (held.after, held.good, refl);
          matches = record { names = agrees_at h.names s.scope (left s (m s).part.state).scope named (left_names s (m s).part.state c.grows) matches.names; next = after.next; locals = after.locals };
        };
  }
