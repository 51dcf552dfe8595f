-- Statements in which no fault is found are their trees with names resolved.
use Rattle.std.proofs.Common.{◌≡◌, ℕ, ◌+◌, ◌==◌, suc, Bool, true, false, ◌||◌, not, List, [], ◌∷◌, map, length, slice_get, Option, Some, None, refl, sym, ap, subst, ◌∙◌, arith, codes}
use Rattle.std.specs.List.{AllByRecursion}
use Rattle.std.specs.Option.{option_map}
use Rattle.std.proofs.lemmas.Bool.{or_left, or_right, not-false}
use Rattle.std.proofs.lemmas.Bool.Decides.{nat_tests}
use Rattle.std.proofs.lemmas.Slice.Eq.{bytes_eq-Decides}
use Rattle.span_text.specs.declared.spot.Spot.{Spot}
use Rattle.epl_values.specs.declared.shape.Shape.{Shape, Shape-F, out-Shape}
use Rattle.epl_values.specs.declared.shape.Shape.TheOpen as shape
use Rattle.epl_tree.specs.declared.expression.Expr.{Expr}
use Rattle.epl_tree.specs.declared.name.Name.{Name}
use Rattle.epl_tree.specs.declared.statement.Listening.{Listening}
use Rattle.epl_tree.specs.declared.statement.Place.{Place}
use Rattle.epl_tree.specs.declared.statement.Stmt.{Stmt as Tree}
use Rattle.epl_tree.specs.declared.statement.StmtNode.TheOpen as tree
use Rattle.epl_tree.specs.declared.types.TypeExpr.{TypeExpr}
use Rattle.typed_program.specs.declared.expression.TypedExpr.{TypedExpr}
use Rattle.typed_program.specs.declared.program.Site.{Site}
use Rattle.typed_program.specs.declared.statement.Stmt.{Stmt, Stmt-F}
use Rattle.typed_program.specs.declared.statement.Stmt.{out-Stmt as out-Typed}
use Rattle.typed_program.specs.declared.statement.Stmt.TheOpen as typed
use Rattle.typed_program.specs.declared.statement.Stmt.TheVariants as made
use Rattle.type_table.specs.declared.scope.SeenKind.TheVariants as kind
use Rattle.type_table.specs.declared.table.ActionHead.{ActionHead}
use Rattle.type_table.specs.Found.{Found}
use Rattle.type_table.specs.Types.{type_found}
use Rattle.expr_rules.specs.Asked.{Demand, Event, Sequence, Channel}
use Rattle.epl_values.specs.declared.shape.Shape.TheVariants as value
use Rattle.expr_check.specs.declared.check.Target.{Target}
use Rattle.expr_check.specs.Checks.{place_found}
use Rattle.stmt_check.specs.declared.state.State.{State}
use Rattle.stmt_check.specs.Bodies.{name_read, local_read, scoped, in_loop, action_named, when}
use Rattle.stmt_check.specs.Bodies.{Around as Body}
use Rattle.stmt_check.specs.Captures.{Names, either, any_of, if_any, none, expr_names, optional_names, exprs_name, place_names}
use Rattle.stmt_check.specs.Statements.{asked, exactly, wanted, for_place, target_shape, reads, element_layer, element_of, shape_of, spawn_codes, is_subscribe, is_unsubscribe, control_codes, control, args_read, maybe_read, spawned_read, spawn_read, channel_read, monitor_read, return_codes, return_read, jump_read, Part, NodePart, OnPart, row_read, block_read, other_read, if_read, while_read, turn_read, for_read, takes_listener}
use Rattle.stmt_check.specs.Steps.{After, Reads, ◌>>=◌, pure, given, looks, tells, before_all, each, optional}
use Rattle.name_resolution.specs.Names.{Around, held}
use Rattle.name_resolution.specs.Types.{TypeIs}
use Rattle.name_resolution.specs.Expressions.{ExprIs}
use Rattle.name_resolution.specs.Statements.{Here, leaving, element, PlaceIs, MaybeIs, StmtForm, StmtIs, NodeIs, RowIs, OtherIs, ListenIs}
use Rattle.name_resolution.specs.Statements.{with_local as local_more}
use Rattle.name_resolution.specs.Statements as rule
use Rattle.name_resolution.proofs.Sure.{Sure, no_both}
use Rattle.name_resolution.proofs.TypesRead.{type_sure}
use Rattle.name_resolution.proofs.Claims.{Claim, Still, claim_bind, claim_as, claim_by, claim_pure, claim_given, claim_tells, claim_behind}
use Rattle.name_resolution.proofs.BodyRead.{Within, Fit, ExprAt, MaybeAt, ExprsAt, PlaceAt, LocalMore, Left, reads_claim, maybe_claim, args_claim, place_claim, name_claim, local_claim, scoped_claim}

pub no_when : (b : Bool) (code : ℕ) → when b code ≡ [] → b ≡ false
no_when true code h = cc
no_when false code h = refl

element_layer_same : (l : Shape-F Shape) → element_layer l ≡ rule.element_layer l
element_layer_same (shape.Sequence item) = refl
element_layer_same l = refl

element_same : (o : Option Shape) → element_of o ≡ element o
unfolding element_of
element_same None = refl
element_same (Some s) = element_layer_same (out-Shape s)

-- the end of a statement
abbrev pub Done : Stmt → Stmt → Here → Here → Type 0
Done y x h k = (h ≡ k) × (x ≡ y)

pub done_as : (R : Stmt → Here → Here → Type 0) (y x : Stmt) (a c : Here) → Done y x a c → R y a a → R x a c
done_as R y x a c q r = subst (λ (h : Here). R x a h) q.0 (subst (λ (z : Stmt). R z a a) (sym q.1) r)

module _ (around : Around) (sites : List Site) (monitor : ℕ) where
  abbrev pub S : Tree → Stmt → Here → Here → Type 0
  S t y h k = StmtIs around sites h t y k

  abbrev pub N : StmtForm → Stmt → Here → Here → Type 0
  N f y h k = NodeIs around sites h f (out-Typed y) k

  pub at_form : (f : StmtForm) (d : Stmt-F Stmt) (y : Stmt) (h k : Here) → out-Typed y ≡ d → NodeIs around sites h f d k → N f y h k
  at_form f d y h k is r = subst (λ (e : Stmt-F Stmt). NodeIs around sites h f e k) (sym is) r

  -- what is claimed of a statement, of its form, and of a listener
  pub record ForPart (t : Tree) (p : Part) : Type 0 where
    pub claims : (named : Names) (callbacks : ℕ) (body : Body) → Fit around monitor callbacks body → Within p.names named → (s : State) → Claim sites monitor named callbacks (S t) s (p.reads body s)

  pub record ForNode (f : StmtForm) (p : NodePart) : Type 0 where
    pub claims : (named : Names) (callbacks : ℕ) (body : Body) → Fit around monitor callbacks body → Within p.names named → (spot : Spot) (s : State) → Claim sites monitor named callbacks (N f) s (p.reads body spot s)

  abbrev pub Listens : Listening → ℕ → Here → Type 0
  Listens l n h = ListenIs around sites h l n

  pub record ForOn (l : Listening) (p : OnPart) : Type 0 where
    pub claims : (named : Names) (callbacks : ℕ) (body : Body) → Fit around monitor callbacks body → Within p.names named → (takes : Bool) (s : State) → Claim sites monitor named callbacks (Still sites monitor named callbacks (Listens l)) s (p.reads body takes s)

  module _ (named : Names) (callbacks : ℕ) (body : Body) (fit : Fit around monitor callbacks body) where
    abbrev C : {A : Type 0} → (A → Here → Here → Type 0) → State → Found (After State A) → Type 0
    C P s found = Claim sites monitor named callbacks P s found

    abbrev St : {A : Type 0} → (A → Here → Type 0) → A → Here → Here → Type 0
    St P = Still sites monitor named callbacks P

    pub done_claim : (y : Stmt) (s : State) → C (Done y) s (pure y s)
    done_claim y s = claim_pure sites monitor named callbacks (Done y) y s (λ h m. (refl, refl))

    -- behind a part that changes nothing
    then_still : {A : Type 0} (P : A → Here → Type 0) (R : Stmt → Here → Here → Type 0) (m : Reads State A) (n : A → Reads State Stmt) (s : State) → C (St P) s (m s) → C (λ y h k. P (m s).part.part h → R y h k) (m s).part.state (n (m s).part.part (m s).part.state) → C R s ((m >>= n) s)
    then_still P R m n s one two = claim_behind sites monitor named callbacks P (λ y h k. P (m s).part.part h → R y h k) R m n s one two (λ a c y p q. q p)

    -- the last part
    last : {A : Type 0} (P : A → Here → Type 0) (R : Stmt → Here → Here → Type 0) (m : Reads State A) (make : A → Stmt) (s : State) → C (St P) s (m s) → ((h : Here) → P (m s).part.part h → R (make (m s).part.part) h h) → C R s ((m >>= λ x. pure (make x)) s)
    last P R m make s one r = claim_behind sites monitor named callbacks P (Done (make (m s).part.part)) R m (λ x. pure (make x)) s one (done_claim (make (m s).part.part) (m s).part.state) (λ a c y p q. done_as R (make (m s).part.part) y a c q (r a p))

    pub one_expr : (R : Stmt → Here → Here → Type 0) (demand : Demand) → demand.signed ≡ false → (e : Expr) → Within (expr_names e) named → (make : TypedExpr → Stmt) (s : State) → ((h : Here) (x : TypedExpr) → ExprIs around h.names e x → R (make x) h h) → C R s ((reads body.table demand e >>= λ x. pure (make x)) s)
    one_expr R demand plain e within make s r = last (ExprAt around sites monitor named callbacks body fit e) R (reads body.table demand e) make s (reads_claim around sites monitor named callbacks body fit demand plain e within s) (λ h p. r h _ p)

    then_expr : (R : Stmt → Here → Here → Type 0) (demand : Demand) → demand.signed ≡ false → (e : Expr) → Within (expr_names e) named → (n : TypedExpr → Reads State Stmt) (s : State) → ((x : TypedExpr) (t : State) → C (λ y h k. ExprIs around h.names e x → R y h k) t (n x t)) → C R s ((reads body.table demand e >>= n) s)
    then_expr R demand plain e within n s two = then_still (ExprAt around sites monitor named callbacks body fit e) R (reads body.table demand e) n s (reads_claim around sites monitor named callbacks body fit demand plain e within s) (two _ _)

    -- a name, and what is read behind it
    then_name : (R : Stmt → Here → Here → Type 0) (name : Name) (n : Unit {0} → Reads State Stmt) (s : State) → ((t : State) → C R t (n tt t)) → C R s ((name_read name >>= n) s)
    then_name R name n s two = claim_bind sites monitor named callbacks (λ x h k. h ≡ k) R R (name_read name) n s (name_claim around sites monitor named callbacks body fit name s) (two _) (λ a b c y p q. subst (λ (h : Here). R y h c) (sym p) q)

    -- a local at the end
    last_local : (R : Stmt → Here → Here → Type 0) (name : List ℕ) (o : Option Shape) (make : ℕ → Stmt) (s : State) → ((h : Here) → R (make h.next) h (local_more h name o)) → C R s ((local_read kind.Local name o >>= λ n. pure (make n)) s)
    last_local R name o make s r =
        let m = local_read kind.Local name o in
        claim_bind sites monitor named callbacks (LocalMore around sites monitor named callbacks body fit name o) (Done (make (m s).part.part)) R m (λ n. pure (make n)) s (local_claim around sites monitor named callbacks body fit kind.Local name o (λ n. refl) s) (done_claim (make (m s).part.part) (m s).part.state)
        (λ a b c y p q. subst (λ (h : Here). R y a h) q.0 (subst (λ (z : Stmt). R z a b) (sym q.1) (subst (λ (n : ℕ). R (make n) a b) (sym p.0) (subst (λ (h : Here). R (make a.next) a h) (sym p.1) (r a)))))

    then_type : (R : Stmt → Here → Here → Type 0) (w : TypeExpr) (n : Shape → Reads State Stmt) (s : State) → ((x : Shape) (t : State) → C (λ y h k. TypeIs around.types w x → R y h k) t (n x t)) → C R s ((given (type_found body.table w) >>= n) s)
    then_type R w n s two = then_still (λ x h. TypeIs around.types w x) R (given (type_found body.table w)) n s (claim_given sites monitor named callbacks (TypeIs around.types w) (type_found body.table w) s (subst (λ ts. Sure (TypeIs ts w) (type_found body.table w)) fit.types (type_sure body.table w))) (two _ _)

    left : (one other : Names) → Within (either one other) named → Within one named
    left one other w name h = w name (or_left (one name) (other name) h)

    right : (one other : Names) → Within (either one other) named → Within other named
    right one other w name h = w name (or_right (one name) (other name) h)

    -- ---- statements without parts that are statements

    pub send_claim : (e f : Expr) → Within (either (expr_names e) (expr_names f)) named → (s : State) → C (N (tree.Send e f)) s ((reads body.table (asked Event true) e >>= λ x. reads body.table (asked Channel false) f >>= λ y. pure (made.Send x y)) s)
    send_claim e f within s =
        then_expr (N (tree.Send e f)) (asked Event true) refl e (left (expr_names e) (expr_names f) within) (λ x. reads body.table (asked Channel false) f >>= λ y. pure (made.Send x y)) s
        (λ x t. one_expr (λ z h k. ExprIs around h.names e x → N (tree.Send e f) z h k) (asked Channel false) refl f (right (expr_names e) (expr_names f) within) (λ y. made.Send x y) t
        (λ h y q p. at_form (tree.Send e f) (typed.Send x y) (made.Send x y) h h (made.outs-Send x y) (rule.send p q)))

    pub declare_claim : (w : TypeExpr) (name : Name) (s : State) → C (N (tree.Declare w name)) s ((given (type_found body.table w) >>= λ x. name_read name >>= λ _. local_read kind.Local name.text (Some x) >>= λ n. pure (made.Declare n x)) s)
    declare_claim w name s =
        then_type (N (tree.Declare w name)) w (λ x. name_read name >>= λ _. local_read kind.Local name.text (Some x) >>= λ n. pure (made.Declare n x)) s
        (λ x t. then_name (λ y h k. TypeIs around.types w x → N (tree.Declare w name) y h k) name (λ _. local_read kind.Local name.text (Some x) >>= λ n. pure (made.Declare n x)) t
        (λ u. last_local (λ y h k. TypeIs around.types w x → N (tree.Declare w name) y h k) name.text (Some x) (λ n. made.Declare n x) u
        (λ h p. at_form (tree.Declare w name) (typed.Declare h.next x) (made.Declare h.next x) h (local_more h name.text (Some x)) (made.outs-Declare h.next x) (rule.declare p))))

    pub declare_as_claim : (w : TypeExpr) (name : Name) (e : Expr) → Within (expr_names e) named → (s : State) → C (N (tree.DeclareAs w name e)) s ((given (type_found body.table w) >>= λ x. name_read name >>= λ _. reads body.table (exactly x) e >>= λ v. local_read kind.Local name.text (Some x) >>= λ n. pure (made.DeclareAs n v)) s)
    declare_as_claim w name e within s =
        let R : Shape → Stmt → Here → Here → Type 0 = λ x y h k. TypeIs around.types w x → N (tree.DeclareAs w name e) y h k in
        then_type (N (tree.DeclareAs w name e)) w (λ x. name_read name >>= λ _. reads body.table (exactly x) e >>= λ v. local_read kind.Local name.text (Some x) >>= λ n. pure (made.DeclareAs n v)) s
        (λ x t. then_name (R x) name (λ _. reads body.table (exactly x) e >>= λ v. local_read kind.Local name.text (Some x) >>= λ n. pure (made.DeclareAs n v)) t
        (λ u. then_expr (R x) (exactly x) refl e within (λ v. local_read kind.Local name.text (Some x) >>= λ n. pure (made.DeclareAs n v)) u
        (λ v z. last_local (λ y h k. ExprIs around h.names e v → R x y h k) name.text (Some x) (λ n. made.DeclareAs n v) z
        (λ h q p. at_form (tree.DeclareAs w name e) (typed.DeclareAs h.next v) (made.DeclareAs h.next v) h (local_more h name.text (Some x)) (made.outs-DeclareAs h.next v) (rule.declare_as p q)))))

    then_place : (R : Stmt → Here → Here → Type 0) (p : Place) → Within (place_names p) named → (n : Target → Reads State Stmt) (s : State) → ((x : Target) (t : State) → C (λ y h k. PlaceIs around h.names p x.place → R y h k) t (n x t)) → C R s ((looks (λ t. place_found body.table t.scope p) >>= n) s)
    then_place R p within n s two = then_still (PlaceAt around sites monitor named callbacks body fit p) R (looks (λ t. place_found body.table t.scope p)) n s (place_claim around sites monitor named callbacks body fit p within s) (two _ _)

    pub assign_claim : (p : Place) (e : Expr) → Within (either (place_names p) (expr_names e)) named → (s : State) → C (N (tree.Assign p e)) s ((looks (λ t. place_found body.table t.scope p) >>= λ x. reads body.table (for_place (target_shape x)) e >>= λ v. pure (made.Assign x.place v)) s)
    assign_claim p e within s =
        then_place (N (tree.Assign p e)) p (left (place_names p) (expr_names e) within) (λ x. reads body.table (for_place (target_shape x)) e >>= λ v. pure (made.Assign x.place v)) s
        (λ x t. one_expr (λ y h k. PlaceIs around h.names p x.place → N (tree.Assign p e) y h k) (for_place (target_shape x)) refl e (right (place_names p) (expr_names e) within) (λ v. made.Assign x.place v) t
        (λ h v q r. at_form (tree.Assign p e) (typed.Assign x.place v) (made.Assign x.place v) h h (made.outs-Assign x.place v) (rule.assign r q)))

    then_told : (R : Stmt → Here → Here → Type 0) (spot : Spot) (code : State → List ℕ) (n : Unit {0} → Reads State Stmt) (s : State) → ((t : State) → C (λ y h k. (code s ≡ []) × (s.scope.monitor ≡ monitor) → R y h k) t (n tt t)) → C R s ((tells spot code >>= n) s)
    then_told R spot code n s two = then_still (λ x h. (code s ≡ []) × (s.scope.monitor ≡ monitor)) R (tells spot code) n s (claim_tells sites monitor named callbacks spot code s) (two _)

    pub jump_claim : (f : StmtForm) (d : Stmt-F Stmt) (spot : Spot) (y : Stmt) → out-Typed y ≡ d → ((h : Here) → NodeIs around sites h f d h) → (s : State) → C (N f) s (jump_read body spot y s)
    jump_claim f d spot y is r s = then_told (N f) spot (λ t. when (not body.looped) 15) (λ _. pure y) s (λ t. claim_as sites monitor named callbacks (Done y) (λ z h k. ((when (not body.looped) 15 ≡ []) × (s.scope.monitor ≡ monitor)) → N f z h k) t (pure y t) (λ h k q p. done_as (N f) y _ h k q (at_form f d y h h is (r h))) (done_claim y t))

    maybe_within : (e : Option Expr) → Within (optional_names e) named → (f : Expr) → e ≡ Some f → Within (expr_names f) named
    maybe_within None w f is = absurd (cc)
    maybe_within (Some e) w f is = let same : e ≡ f = cc in subst (λ (g : Expr). Within (expr_names g) named) same w

    pub return_claim : (spot : Spot) (e : Option Expr) → Within (optional_names e) named → (s : State) → C (N (tree.Return e)) s (return_read body spot e s)
    return_claim spot e within s =
        then_told (N (tree.Return e)) spot (λ t. return_codes body.result e) (λ _. maybe_read body.table (wanted body.result) e >>= λ x. pure (made.Return x)) s
        (λ t. last (MaybeAt around sites monitor named callbacks body fit e) (λ y h k. ((return_codes body.result e ≡ []) × (s.scope.monitor ≡ monitor)) → N (tree.Return e) y h k) (maybe_read body.table (wanted body.result) e) (λ x. made.Return x) t (maybe_claim around sites monitor named callbacks body fit (wanted body.result) refl e (maybe_within e within) t)
        (λ h p q. at_form (tree.Return e) (typed.Return _) (made.Return _) h h (made.outs-Return _) (rule.return p)))

    -- ---- `spawn` and `monitor.`

    spawned_claim : (spot : Spot) (name : List ℕ) (o : Option ActionHead) (es : List Expr) (to : Option Expr) → Within (either (exprs_name es) (optional_names to)) named → (s : State) → action_named body.table s.scope.monitor name ≡ o → C (N (tree.Spawn name es to)) s (spawned_read body.table spot o es to s)
    spawned_claim spot name None es to within s is =
        then_told (N (tree.Spawn name es to)) spot (λ t. 6 ∷ []) (λ _. pure made.Die) s (λ t. claim_as sites monitor named callbacks (Done made.Die) (λ z h k. ((6 ∷ [] ≡ []) × (s.scope.monitor ≡ monitor)) → N (tree.Spawn name es to) z h k) t (pure made.Die t) (λ h k q p. absurd (let e = p.0 in cc)) (done_claim made.Die t))
    spawned_claim spot name (Some head) es to within s is =
        let R : Stmt → Here → Here → Type 0 = λ y h k. ((spawn_codes head (length es) ≡ []) × (s.scope.monitor ≡ monitor)) → N (tree.Spawn name es to) y h k in
        then_told (N (tree.Spawn name es to)) spot (λ t. spawn_codes head (length es)) (λ _. args_read body.table head.params es >>= λ xs. maybe_read body.table (exactly value.Context) to >>= λ c. pure (made.Spawn head.number xs c)) s
        (λ t.
        let xs = (args_read body.table head.params es t).part.part in
        let u = (args_read body.table head.params es t).part.state in
        let c = (maybe_read body.table (exactly value.Context) to u).part.part in
        then_still (ExprsAt around sites monitor named callbacks body fit es) R (args_read body.table head.params es) (λ xs. maybe_read body.table (exactly value.Context) to >>= λ c. pure (made.Spawn head.number xs c)) t (args_claim around sites monitor named callbacks body fit head.params es (left (exprs_name es) (optional_names to) within) t)
        (last (MaybeAt around sites monitor named callbacks body fit to) (λ y h k. ExprsAt around sites monitor named callbacks body fit es xs h → R y h k) (maybe_read body.table (exactly value.Context) to) (λ c. made.Spawn head.number xs c) u (maybe_claim around sites monitor named callbacks body fit (exactly value.Context) refl to (maybe_within to (right (exprs_name es) (optional_names to) within)) u)
        (λ h q p r.
        let known = fit.spawned name head (ap (λ (m : ℕ). action_named body.table m name) (sym r.1) ∙ is) in
        at_form (tree.Spawn name es to) (typed.Spawn (held (around.first + known.place)) xs c) (made.Spawn head.number xs c) h h (made.outs-Spawn head.number xs c ∙ ap (λ (n : ℕ). typed.Spawn n xs c) known.number) (rule.spawn known.there p q))))

    pub spawn_claim : (spot : Spot) (name : List ℕ) (es : List Expr) (to : Option Expr) → Within (either (exprs_name es) (optional_names to)) named → (s : State) → C (N (tree.Spawn name es to)) s (spawn_read body.table spot name es to s)
    spawn_claim spot name es to within s = claim_by sites monitor named callbacks (N (tree.Spawn name es to)) (λ t. spawned_read body.table spot (action_named body.table t.scope.monitor name) es to) s (spawned_claim spot name (action_named body.table s.scope.monitor name) es to within s refl)

    -- which of the two names it is
    controlled : (name : List ℕ) (e : Expr) (h : Here) (x : TypedExpr) (b : Bool) → is_subscribe name ≡ b → (b || is_unsubscribe name) ≡ true → ExprIs around h.names e x → N (tree.Monitor name (e ∷ [])) (elim b [ true ↦ made.Subscribe x | false ↦ made.Unsubscribe x ]) h h
    controlled name e h x true is either p =
        let same : name ≡ codes "subscribe" = (bytes_eq-Decides name (codes "subscribe")).0 is in
        subst (λ (n : List ℕ). N (tree.Monitor n (e ∷ [])) (made.Subscribe x) h h) (sym same) (at_form (tree.Monitor (codes "subscribe") (e ∷ [])) (typed.Subscribe x) (made.Subscribe x) h h (made.outs-Subscribe x) (rule.subscribe p))
    controlled name e h x false is either p =
        let same : name ≡ codes "unsubscribe" = (bytes_eq-Decides name (codes "unsubscribe")).0 either in
        subst (λ (n : List ℕ). N (tree.Monitor n (e ∷ [])) (made.Unsubscribe x) h h) (sym same) (at_form (tree.Monitor (codes "unsubscribe") (e ∷ [])) (typed.Unsubscribe x) (made.Unsubscribe x) h h (made.outs-Unsubscribe x) (rule.unsubscribe p))

    abbrev Told : List ℕ → ℕ → State → Type 0
    Told name count s = (control_codes name count ≡ []) × (s.scope.monitor ≡ monitor)

    known_name : (name : List ℕ) (count : ℕ) → control_codes name count ≡ [] → (is_subscribe name || is_unsubscribe name) ≡ true
    known_name name count none = not-false (is_subscribe name || is_unsubscribe name) (no_when (not (is_subscribe name || is_unsubscribe name)) 6 (no_both (when (not (is_subscribe name || is_unsubscribe name)) 6) (when (not (count == 1)) 8) none).0)

    one_only : (name : List ℕ) (count : ℕ) → control_codes name count ≡ [] → (count == 1) ≡ true
    one_only name count none = not-false (count == 1) (no_when (not (count == 1)) 8 (no_both (when (not (is_subscribe name || is_unsubscribe name)) 6) (when (not (count == 1)) 8) none).1)

    not_one : (n : ℕ) → (suc (suc n) == 1) ≡ true → ⊥
    not_one n h = absurd (grind (arith, nat_tests))

    channel_claim : (name : List ℕ) (es : List Expr) → Within (exprs_name es) named → (s t : State) → C (λ y h k. Told name (length es) s → N (tree.Monitor name es) y h k) t (channel_read body.table name (slice_get es 0) t)
    channel_claim name [] within s t = claim_as sites monitor named callbacks (Done made.Die) (λ z h k. Told name 0 s → N (tree.Monitor name []) z h k) t (pure made.Die t) (λ h k q p. absurd (let e = one_only name 0 p.0 in cc)) (done_claim made.Die t)
    channel_claim name (e ∷ []) within s t = one_expr (λ y h k. Told name 1 s → N (tree.Monitor name (e ∷ [])) y h k) (exactly value.Text) refl e (left (expr_names e) (any_of []) within) (λ x. control name x) t (λ h x p q. controlled name e h x (is_subscribe name) refl (known_name name 1 q.0) p)
    channel_claim name (e ∷ f ∷ es) within s t = one_expr (λ y h k. Told name (suc (suc (length es))) s → N (tree.Monitor name (e ∷ f ∷ es)) y h k) (exactly value.Text) refl e (left (expr_names e) (any_of (map expr_names (f ∷ es))) within) (λ x. control name x) t (λ h x p q. absurd (not_one (length es) (one_only name (suc (suc (length es))) q.0)))

    pub monitor_claim : (spot : Spot) (name : List ℕ) (es : List Expr) → Within (exprs_name es) named → (s : State) → C (N (tree.Monitor name es)) s (monitor_read body.table spot name es s)
    monitor_claim spot name es within s = then_told (N (tree.Monitor name es)) spot (λ t. control_codes name (length es)) (λ _. channel_read body.table name (slice_get es 0)) s (λ t. channel_claim name es within s t)

    -- ---- statements in a row

    abbrev RowOf : List Tree → List Stmt → Here → Here → Type 0
    RowOf ts ys h k = RowIs around sites h ts ys k

    put_claim : (ts : List Tree) (x : Stmt) (m : Reads State (List Stmt)) (s : State) → C (RowOf ts) s (m s) → C (λ ys h k. (zs : List Stmt) × (ys ≡ x ∷ zs) × RowOf ts zs h k) s (before_all x m s)
    unfolding before_all
    put_claim ts x m s c = record {
      grows = c.grows;
      own = c.own;
      actions = c.actions;
      sites = c.sites;
      holds = λ h none fits r matches. let held = c.holds h none (record { at = fits.at }) r matches in record { after = held.after; good = ((m s).part.part, refl, held.good); matches = held.matches };
    }

    abbrev Reading : (Tree → Reads State Stmt) → Tree → Type 0
    Reading m t = (s : State) → C (S t) s (m t s)

    pub each_claim : (m : Tree → Reads State Stmt) (ts : List Tree) → AllByRecursion (Reading m) ts → (s : State) → C (RowOf ts) s (each (map m ts) s)
    unfolding each
    each_claim m [] all s = claim_pure sites monitor named callbacks (RowOf []) [] s (λ h k. rule.no_stmts)
    each_claim m (t ∷ ts) all s =
        claim_bind sites monitor named callbacks (S t) (λ ys h k. (zs : List Stmt) × (ys ≡ (m t s).part.part ∷ zs) × RowOf ts zs h k) (RowOf (t ∷ ts)) (m t) (λ x. before_all x (each (map m ts))) s (all.0 s)
        (put_claim ts (m t s).part.part (each (map m ts)) (m t s).part.state (each_claim m ts all.1 (m t s).part.state))
        (λ a b c y p q. subst (λ (l : List Stmt). RowOf (t ∷ ts) l a c) (sym q.1) (rule.a_stmt p q.2))

  -- ---- compound statements

  pub map_map : {A B D : Type 0} (f : A → B) (g : B → D) (xs : List A) → map g (map f xs) ≡ map (λ x. g (f x)) xs
  map_map f g [] = refl
  map_map {D = D} f g (x ∷ xs) = ap (λ (l : List D). g (f x) ∷ l) (map_map f g xs)

  module _ (part : Tree → Part) where
    abbrev P : Type 0
    P = (t : Tree) × ForPart t (part t)

    abbrev trees : List P → List Tree
    trees ps = map (λ p. p.0) ps

    abbrev names : List P → Names
    names ps = any_of (map (λ (p : Part). p.names) (map part (trees ps)))

    module _ (named : Names) (callbacks : ℕ) (body : Body) (fit : Fit around monitor callbacks body) where
      abbrev C1 : {A : Type 0} → (A → Here → Here → Type 0) → State → Found (After State A) → Type 0
      C1 P s found = Claim sites monitor named callbacks P s found

      all_read : (ps : List P) → Within (names ps) named → AllByRecursion (Reading named callbacks body fit (λ t. (part t).reads body)) (trees ps)
      all_read [] w = tt
      all_read (p ∷ ps) w = (let f = p.1 in f.claims named callbacks body fit (λ name h. w name (or_left ((part p.0).names name) (names ps name) h)), all_read ps (λ name h. w name (or_right ((part p.0).names name) (names ps name) h)))

      row_claim : (ps : List P) → Within (names ps) named → (s : State) → C1 (λ ys h k. RowIs around sites h (trees ps) ys k) s (row_read body (map part (trees ps)) s)
      row_claim ps w s = subst (λ (ms : List (Reads State Stmt)). C1 (λ ys h k. RowIs around sites h (trees ps) ys k) s (each ms s)) (sym (map_map part (λ p. p.reads body) (trees ps))) (each_claim named callbacks body fit (λ t. (part t).reads body) (trees ps) (all_read ps w) s)

      abbrev LeftOf : {A : Type 0} → (A → Here → Here → Type 0) → A → Here → Here → Type 0
      LeftOf R = Left around sites monitor named callbacks body fit R

      pub block_claim : (ps : List P) → Within (names ps) named → (s : State) → C1 (N (tree.Block (trees ps))) s (block_read body (map part (trees ps)) s)
      block_claim ps w s =
          let m = scoped (row_read body (map part (trees ps))) in
          claim_bind sites monitor named callbacks (LeftOf (λ ys h k. RowIs around sites h (trees ps) ys k)) (Done (made.Block (m s).part.part)) (N (tree.Block (trees ps))) m (λ x. pure (made.Block x)) s
          (scoped_claim around sites monitor named callbacks body fit (λ ys h k. RowIs around sites h (trees ps) ys k) (row_read body (map part (trees ps))) s (row_claim ps w s))
          (done_claim named callbacks body fit (made.Block (m s).part.part) (m s).part.state)
          (λ a b c y p q.
          subst (λ (h : Here). N (tree.Block (trees ps)) y a h) q.0 (subst (λ (z : Stmt). N (tree.Block (trees ps)) z a b) (sym q.1) (subst (λ (h : Here). N (tree.Block (trees ps)) (made.Block (m s).part.part) a h) (sym p.2)
          (at_form (tree.Block (trees ps)) (typed.Block (m s).part.part) (made.Block (m s).part.part) a (leaving a p.0) (made.outs-Block (m s).part.part) (rule.block p.1)))))

  in_loop_fit : {callbacks : ℕ} (body : Body) → Fit around monitor callbacks body → Fit around monitor callbacks (in_loop body)
  in_loop_fit body f = record { types = f.types; acts = f.acts; spawned = f.spawned; callbacks_are = f.callbacks_are }

  module _ (part : Tree → Part) (on : Listening → OnPart) (named : Names) (callbacks : ℕ) (body : Body) (fit : Fit around monitor callbacks body) where
    abbrev P2 : Type 0
    P2 = (t : Tree) × ForPart t (part t)

    abbrev trees2 : List P2 → List Tree
    trees2 ps = map (λ p. p.0) ps

    abbrev names2 : List P2 → Names
    names2 ps = any_of (map (λ (p : Part). p.names) (map part (trees2 ps)))

    abbrev C2 : {A : Type 0} → (A → Here → Here → Type 0) → State → Found (After State A) → Type 0
    C2 Q s found = Claim sites monitor named callbacks Q s found

    abbrev Row2 : List P2 → List Stmt → Here → Here → Type 0
    Row2 ps ys h k = RowIs around sites h (trees2 ps) ys k

    abbrev Left2 : {A : Type 0} → (A → Here → Here → Type 0) → A → Here → Here → Type 0
    Left2 R = Left around sites monitor named callbacks body fit R

    loop_row : (ps : List P2) → Within (names2 ps) named → (s : State) → C2 (Row2 ps) s (row_read (in_loop body) (map part (trees2 ps)) s)
    loop_row ps w s = row_claim part named callbacks (in_loop body) (in_loop_fit body fit) ps w s

    pub while_claim : (e : Expr) (ps : List P2) → Within (either (expr_names e) (names2 ps)) named → (s : State) → C2 (N (tree.While e (trees2 ps))) s (while_read body e (map part (trees2 ps)) s)
    while_claim e ps w s =
        then_expr named callbacks body fit (N (tree.While e (trees2 ps))) (exactly value.Boolean) refl e (left named callbacks body fit (expr_names e) (names2 ps) w) (λ x. scoped (row_read (in_loop body) (map part (trees2 ps))) >>= λ ys. pure (made.While x ys)) s
        (λ x t.
        let m = scoped (row_read (in_loop body) (map part (trees2 ps))) in
        let y0 = made.While x (m t).part.part in
        let R : Stmt → Here → Here → Type 0 = λ y h k. ExprIs around h.names e x → N (tree.While e (trees2 ps)) y h k in
        claim_bind sites monitor named callbacks (Left2 (Row2 ps)) (Done y0) R m (λ ys. pure (made.While x ys)) t
        (scoped_claim around sites monitor named callbacks body fit (Row2 ps) (row_read (in_loop body) (map part (trees2 ps))) t (loop_row ps (right named callbacks body fit (expr_names e) (names2 ps) w) t))
        (done_claim named callbacks body fit y0 (m t).part.state)
        (λ a b c y p q. subst (λ (h : Here). R y a h) q.0 (subst (λ (z : Stmt). R z a b) (sym q.1) (subst (λ (h : Here). R y0 a h) (sym p.2)
        (λ r. at_form (tree.While e (trees2 ps)) (typed.While x (m t).part.part) y0 a (leaving a p.0) (made.outs-While x (m t).part.part) (rule.while r p.1))))))

    -- what the turns of a `for` come to
    Turns : Name → Expr → TypedExpr → List P2 → Stmt → Here → Here → Type 0
    Turns name e x ps y h k = (ys : List Stmt) × (y ≡ made.For h.next x ys) × RowIs around sites (local_more h name.text (element (shape_of x))) (trees2 ps) ys k

    turns_claim : (name : Name) (e : Expr) (x : TypedExpr) (ps : List P2) → Within (names2 ps) named → (s : State) → C2 (Turns name e x ps) s (turn_read body name x (map part (trees2 ps)) s)
    unfolding Turns
    turns_claim name e x ps w s =
        let o = element_of (shape_of x) in
        let m = local_read kind.Loop name.text o in
        let n = (m s).part.part in
        let rows = row_read (in_loop body) (map part (trees2 ps)) in
        let Q : Stmt → Here → Here → Type 0 = λ y h k. (ys : List Stmt) × (y ≡ made.For n x ys) × Row2 ps ys h k in
        claim_bind sites monitor named callbacks (LocalMore around sites monitor named callbacks body fit name.text o) Q (Turns name e x ps) m (λ n. rows >>= λ ys. pure (made.For n x ys)) s
        (local_claim around sites monitor named callbacks body fit kind.Loop name.text o (λ k. refl) s)
        (claim_bind sites monitor named callbacks (Row2 ps) (Done (made.For n x (rows (m s).part.state).part.part)) Q rows (λ ys. pure (made.For n x ys)) (m s).part.state
        (loop_row ps w (m s).part.state)
        (done_claim named callbacks body fit (made.For n x (rows (m s).part.state).part.part) (rows (m s).part.state).part.state)
        (λ a b c y p q. ((rows (m s).part.state).part.part, q.1, subst (λ (h : Here). Row2 ps (rows (m s).part.state).part.part a h) q.0 p)))
        (λ a b c y p q. (q.0, q.1 ∙ ap (λ (k : ℕ). made.For k x q.0) p.0, subst (λ (h : Here). Row2 ps q.0 h c) (p.1 ∙ ap (λ (r : Option Shape). local_more a name.text r) (element_same (shape_of x))) q.2))

    pub for_claim : (name : Name) (e : Expr) (ps : List P2) → Within (either (expr_names e) (names2 ps)) named → (s : State) → C2 (N (tree.For name e (trees2 ps))) s (for_read body name e (map part (trees2 ps)) s)
    unfolding Turns
    for_claim name e ps w s =
        then_name named callbacks body fit (N (tree.For name e (trees2 ps))) name (λ _. reads body.table (asked Sequence true) e >>= λ x. scoped (turn_read body name x (map part (trees2 ps)))) s
        (λ t. then_expr named callbacks body fit (N (tree.For name e (trees2 ps))) (asked Sequence true) refl e (left named callbacks body fit (expr_names e) (names2 ps) w) (λ x. scoped (turn_read body name x (map part (trees2 ps)))) t
        (λ x u. claim_as sites monitor named callbacks (Left2 (Turns name e x ps)) (λ y h k. ExprIs around h.names e x → N (tree.For name e (trees2 ps)) y h k) u (scoped (turn_read body name x (map part (trees2 ps))) u)
        (λ h k p r.
        let q = p.1 in
        subst (λ (z : Here). N (tree.For name e (trees2 ps)) (scoped (turn_read body name x (map part (trees2 ps))) u).part.part h z) (sym p.2) (subst (λ (z : Stmt). N (tree.For name e (trees2 ps)) z h (leaving h p.0)) (sym q.1)
        (at_form (tree.For name e (trees2 ps)) (typed.For h.next x q.0) (made.For h.next x q.0) h (leaving h p.0) (made.outs-For h.next x q.0) (rule.for r q.2))))
        (scoped_claim around sites monitor named callbacks body fit (Turns name e x ps) (turn_read body name x (map part (trees2 ps))) u (turns_claim name e x ps (right named callbacks body fit (expr_names e) (names2 ps) w) u))))

    -- ---- `if`

    abbrev Other : Option P2 → Option Stmt → Here → Here → Type 0
    Other o y h k = OtherIs around sites h (option_map (λ p. p.0) o) y k

    abbrev pub other_names : Option P2 → Names
    other_names o = if_any (option_map (λ (p : Part). p.names) (option_map part (option_map (λ p. p.0) o)))

    other_claim : (o : Option P2) → Within (other_names o) named → (s : State) → C2 (Other o) s (other_read body (option_map part (option_map (λ p. p.0) o)) s)
    unfolding optional
    other_claim None w s = claim_pure sites monitor named callbacks (Other None) None s (λ h k. rule.no_other)
    other_claim (Some p) w s =
        let m = scoped ((part p.0).reads body) in
        let f = p.1 in
        let y0 : Option Stmt = Some (m s).part.part in
        claim_bind sites monitor named callbacks (Left2 (S p.0)) (λ y h k. (h ≡ k) × (y ≡ y0)) (Other (Some p)) m (λ x. pure (Some x)) s
        (scoped_claim around sites monitor named callbacks body fit (S p.0) ((part p.0).reads body) s (f.claims named callbacks body fit w s))
        (claim_pure sites monitor named callbacks (λ y h k. (h ≡ k) × (y ≡ y0)) y0 (m s).part.state (λ h k. (refl, refl)))
        (λ a b c y p' q. subst (λ (h : Here). Other (Some p) y a h) q.0 (subst (λ (z : Option Stmt). Other (Some p) z a b) (sym q.1) (subst (λ (h : Here). Other (Some p) y0 a h) (sym p'.2) (rule.other p'.1))))

    pub if_claim : (e : Expr) (p : P2) (o : Option P2) → Within (either (expr_names e) (either (part p.0).names (other_names o))) named → (s : State) → C2 (N (tree.If e p.0 (option_map (λ p. p.0) o))) s (if_read body e (part p.0) (option_map part (option_map (λ p. p.0) o)) s)
    if_claim e p o w s =
        let F = tree.If e p.0 (option_map (λ p. p.0) o) in
        let rest = right named callbacks body fit (expr_names e) (either (part p.0).names (other_names o)) w in
        let others = other_read body (option_map part (option_map (λ p. p.0) o)) in
        let f = p.1 in
        then_expr named callbacks body fit (N F) (exactly value.Boolean) refl e (left named callbacks body fit (expr_names e) (either (part p.0).names (other_names o)) w) (λ x. scoped ((part p.0).reads body) >>= λ y. others >>= λ z. pure (made.If x y z)) s
        (λ x t.
        let m = scoped ((part p.0).reads body) in
        let y1 = (m t).part.part in
        let u = (m t).part.state in
        let z1 = (others u).part.part in
        let R : Stmt → Here → Here → Type 0 = λ y h k. ExprIs around h.names e x → N F y h k in
        let Q : Stmt → Here → Here → Type 0 = λ y h k. (y ≡ made.If x y1 z1) × Other o z1 h k in
        claim_bind sites monitor named callbacks (Left2 (S p.0)) Q R m (λ y. others >>= λ z. pure (made.If x y z)) t
        (scoped_claim around sites monitor named callbacks body fit (S p.0) ((part p.0).reads body) t (f.claims named callbacks body fit (left named callbacks body fit (part p.0).names (other_names o) rest) t))
        (claim_bind sites monitor named callbacks (Other o) (Done (made.If x y1 z1)) Q others (λ z. pure (made.If x y1 z)) u
        (other_claim o (right named callbacks body fit (part p.0).names (other_names o) rest) u)
        (done_claim named callbacks body fit (made.If x y1 z1) (others u).part.state)
        (λ a b c y q r. (r.1, subst (λ (h : Here). Other o z1 a h) r.0 q)))
        (λ a b c y q r. λ h. subst (λ (z : Stmt). N F z a c) (sym r.0) (at_form F (typed.If x y1 z1) (made.If x y1 z1) a c (made.outs-If x y1 z1) (rule.branch h q.1 (subst (λ (k : Here). Other o z1 k c) q.2 r.1)))))

    -- ---- with listeners

    abbrev O2 : Type 0
    O2 = (l : Listening) × ForOn l (on l)

    abbrev Listens2 : O2 → ℕ → Here → Type 0
    Listens2 l n h = ListenIs around sites h l.0 n

    on_reads : (l : O2) (takes : Bool) → Within (on l.0).names named → (s : State) → C2 (Still sites monitor named callbacks (Listens2 l)) s ((on l.0).reads body takes s)
    on_reads l takes w s = let f = l.1 in f.claims named callbacks body fit w takes s

    pub on_claim : (l : O2) → Within (on l.0).names named → (s : State) → C2 (N (tree.On l.0)) s (((on l.0).reads body true >>= λ n. pure (made.On n)) s)
    on_claim l w s = last named callbacks body fit (Listens2 l) (N (tree.On l.0)) ((on l.0).reads body true) (λ n. made.On n) s (on_reads l true w s) (λ h p. at_form (tree.On l.0) (typed.On _) (made.On _) h h (made.outs-On _) (rule.on p))

    pub declare_on_claim : (type : TypeExpr) (name : Name) (l : O2) → Within (on l.0).names named → (s : State) → C2 (N (tree.DeclareOn type name l.0)) s ((given (type_found body.table type) >>= λ x. name_read name >>= λ _. (on l.0).reads body (takes_listener (Some x)) >>= λ v. local_read kind.Local name.text (Some x) >>= λ n. pure (made.DeclareOn n v)) s)
    declare_on_claim type name l w s =
        let R : Shape → Stmt → Here → Here → Type 0 = λ x y h k. TypeIs around.types type x → N (tree.DeclareOn type name l.0) y h k in
        then_type named callbacks body fit (N (tree.DeclareOn type name l.0)) type (λ x. name_read name >>= λ _. (on l.0).reads body (takes_listener (Some x)) >>= λ v. local_read kind.Local name.text (Some x) >>= λ n. pure (made.DeclareOn n v)) s
        (λ x t. then_name named callbacks body fit (R x) name (λ _. (on l.0).reads body (takes_listener (Some x)) >>= λ v. local_read kind.Local name.text (Some x) >>= λ n. pure (made.DeclareOn n v)) t
        (λ u. then_still named callbacks body fit (Listens2 l) (R x) ((on l.0).reads body (takes_listener (Some x))) (λ v. local_read kind.Local name.text (Some x) >>= λ n. pure (made.DeclareOn n v)) u (on_reads l (takes_listener (Some x)) w u)
        (last_local named callbacks body fit (λ y h k. Listens2 l _ h → R x y h k) name.text (Some x) (λ n. made.DeclareOn n _) _
        (λ h q p. at_form (tree.DeclareOn type name l.0) (typed.DeclareOn h.next _) (made.DeclareOn h.next _) h (local_more h name.text (Some x)) (made.outs-DeclareOn h.next _) (rule.declare_on p q)))))

    pub assign_on_claim : (p : Place) (l : O2) → Within (either (place_names p) (on l.0).names) named → (s : State) → C2 (N (tree.AssignOn p l.0)) s ((looks (λ t. place_found body.table t.scope p) >>= λ x. (on l.0).reads body (takes_listener (target_shape x)) >>= λ n. pure (made.AssignOn x.place n)) s)
    assign_on_claim p l w s =
        then_place named callbacks body fit (N (tree.AssignOn p l.0)) p (left named callbacks body fit (place_names p) (on l.0).names w) (λ x. (on l.0).reads body (takes_listener (target_shape x)) >>= λ n. pure (made.AssignOn x.place n)) s
        (λ x t. last named callbacks body fit (Listens2 l) (λ y h k. PlaceIs around h.names p x.place → N (tree.AssignOn p l.0) y h k) ((on l.0).reads body (takes_listener (target_shape x))) (λ n. made.AssignOn x.place n) t (on_reads l (takes_listener (target_shape x)) (right named callbacks body fit (place_names p) (on l.0).names w) t)
        (λ h q r. at_form (tree.AssignOn p l.0) (typed.AssignOn x.place _) (made.AssignOn x.place _) h h (made.outs-AssignOn x.place _) (rule.assign_on r q)))
