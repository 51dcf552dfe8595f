-- Listeners, and every statement.
use Rattle.std.proofs.Common.{◌≡◌, ℕ, ◌+◌, ◌≤◌, suc, nat_le, Bool, true, false, ◌||◌, not, List, [], ◌∷◌, ◌++◌, map, length, drop, insert, slice_get, Option, Some, None, refl, sym, ap, subst, ◌∙◌, arith}
use Rattle.std.proofs.lemmas.Bool.{or_left, or_right, or_parts}
use Rattle.std.proofs.lemmas.Bool.Decides.{nat_tests}
use Rattle.std.proofs.lemmas.List.{append-nil}
use Rattle.std.proofs.lemmas.List.Edits.{length-insert}
use Rattle.std.proofs.lemmas.Option.{slice_get_within}
use Rattle.span_text.specs.declared.spot.Spot.{Spot}
use Rattle.epl_tree.specs.declared.event.EventExpr.{EventExpr}
use Rattle.epl_tree.specs.declared.statement.Listening.{Listening}
use Rattle.epl_tree.specs.declared.statement.Stmt.{Stmt as Tree}
use Rattle.epl_tree.specs.declared.statement.StmtNode.{StmtNode}
use Rattle.epl_tree.specs.declared.statement.StmtNode.TheOpen.{StmtNode-F, Listening-F, Stmt-F}
use Rattle.epl_tree.specs.declared.statement.StmtNode.TheOpen as tree
use Rattle.epl_tree.specs.declared.statement.StmtNode.TheViews.{roll-StmtNode, roll-Listening, roll-Stmt, out-StmtNode, out-Listening, out-roll-StmtNode, out-roll-Listening, out-roll-Stmt}
use Rattle.epl_tree.specs.declared.statement.StmtNode.TheFolds.{fold-StmtNode, fold-Listening, fold-Stmt, fold-roll-StmtNode, fold-roll-Listening, fold-roll-Stmt, ind-Stmt, map-StmtNode, map-Listening, map-Stmt}
use Rattle.typed_program.specs.declared.program.Site.{Site}
use Rattle.typed_program.specs.declared.program.TypedTerm.{TypedTerm}
use Rattle.typed_program.specs.declared.statement.Stmt.{Stmt}
use Rattle.typed_program.specs.declared.statement.Stmt.TheOpen as typed
use Rattle.typed_program.specs.declared.statement.Stmt.TheVariants as made
use Rattle.type_table.specs.declared.scope.Seen.{Seen}
use Rattle.type_table.specs.Found.{Found}
use Rattle.expr_rules.specs.Asked.{Event, Statement}
use Rattle.epl_values.specs.declared.shape.Shape.TheVariants as value
use Rattle.listener_check.specs.Bound.{inner_of}
use Rattle.listener_check.specs.Bound.{local_of as bound_local}
use Rattle.listener_check.specs.Terms.{nothing_yet, term_found, term_read}
use Rattle.stmt_check.specs.declared.state.State.{State}
use Rattle.stmt_check.specs.Bodies.{Around as Body}
use Rattle.stmt_check.specs.Bodies.{in_callback, when, short, captured_in, bound_in, callback_start, local_of, site_of, site_number, with_site}
use Rattle.stmt_check.specs.Captures.{Names, either, none, event_names}
use Rattle.stmt_check.specs.Statements.{asked, exactly, on_codes, callback_read, listen_read, Part, NodePart, OnPart, node_part, on_part, stmt_part, part_of}
use Rattle.stmt_check.specs.Steps.{After, ◌>>=◌, looks, reads_by, tells, within}
use Rattle.name_resolution.specs.Names.{Around}
use Rattle.name_resolution.specs.Events.{TermIs}
use Rattle.name_resolution.specs.Statements.{Here, StmtForm, StmtIs, ListenIs, stmt_form, BoundAre}
use Rattle.name_resolution.specs.Statements.{callback_start as starts}
use Rattle.name_resolution.specs.Statements as rule
use Rattle.name_resolution.proofs.Sure.{no_both}
use Rattle.name_resolution.proofs.Agreeing.{Agrees, agrees_fewer}
use Rattle.name_resolution.proofs.Bound.{inner_wider, behind_is}
use Rattle.name_resolution.proofs.Callbacks.{start_matches, bound_are, insert_at, insert_above, insert_below}
use Rattle.std.proofs.Common.{cond, is_some}
use Rattle.std.specs.List.{AllByRecursion}
use Rattle.std.specs.Option.{option_map}
use Rattle.std.proofs.lemmas.Bool.{and_parts}
use Rattle.type_table.specs.declared.scope.Scope.{Scope}
use Rattle.type_table.specs.declared.scope.SeenKind.TheVariants as kind
use Rattle.type_table.specs.Table.{seen_of}
use Rattle.expr_rules.specs.Names.{seen}
use Rattle.listener_check.specs.Bound.{is_own}
use Rattle.name_resolution.specs.Names.{meaning_of, Meant}
use Rattle.std.proofs.Math.Seq.{drop-append_seam}
use Rattle.typed_program.specs.declared.statement.Variable.TheVariants as var
use Rattle.type_table.specs.declared.scope.SeenKind.{SeenKind}
use Rattle.type_table.specs.declared.table.Table.{Table}
use Rattle.listener_check.specs.Bound.{is_among}
use Rattle.name_resolution.proofs.Seeing.{variable_by}
use Rattle.name_resolution.proofs.BoundRead.{Numbered, Tied, expr_ties, place_meant}
use Rattle.name_resolution.proofs.Seeing.{meant_by}
use Rattle.name_resolution.proofs.Bound.{IsBound}
use Rattle.name_resolution.proofs.Heads.{place_some}
use Rattle.name_resolution.proofs.Claims.{is_called, first_by, first_behind, seen_first, or_else}
use Rattle.name_resolution.proofs.Claims.{by_seen, meaning_mapped, agrees_more, grown_same, Extends, Matches, Ready, Fits, Claim, Still, claim_looks, claim_tells, claim_behind, claim_as}
use Rattle.name_resolution.proofs.TermsRead.{terms_stay}
use Rattle.name_resolution.proofs.BodyRead.{Within, Fit}
use Rattle.name_resolution.proofs.StatementsRead.{no_when, S, N, Done, at_form, done_as, ForPart, ForNode, ForOn, Listens, done_claim, one_expr, send_claim, declare_claim, declare_as_claim, assign_claim, jump_claim, return_claim, spawn_claim, monitor_claim, block_claim, while_claim, for_claim, if_claim, on_claim, declare_on_claim, assign_on_claim}

-- ---- a bound name

none_is : {A : Type 0} (o : Option A) → is_some o ≡ false → o ≡ None
none_is None h = refl
none_is (Some x) h = absurd (cc)

not_true : (b : Bool) → not b ≡ true → b ≡ false
not_true true h = absurd (cc)
not_true false h = refl

all_by : (x : Seen) (b : Bool) (s : Seen) (o : Option Seen) → IsBound x → cond b (Some x) o ≡ Some s → (o ≡ Some s → IsBound s) → IsBound s
all_by x true s o p h rest = let e : x ≡ s = cc in subst IsBound e p
all_by x false s o p h rest = rest h

all_first : (q : Seen → Bool) (xs : List Seen) (s : Seen) → AllByRecursion IsBound xs → first_by q xs ≡ Some s → IsBound s
all_first q [] s all h = absurd (cc)
all_first q (x ∷ xs) s all h = all_by x (q x) s (first_by q xs) all.0 h (λ k. all_first q xs s all.1 k)

-- what an own name of the event expression stands for
owned_at : (scope inner : Scope) (xs : List Seen) → inner.names ≡ scope.names ++ xs → AllByRecursion IsBound xs → (name : List ℕ) (s : Seen) → is_own scope inner name ≡ true → seen inner name ≡ Some s → (meaning_of (map by_seen xs) name ≡ Some (meant_by s)) × (s.kind ≡ kind.Bound)
owned_at scope inner xs wider all name s own at =
    let outside : first_by (is_called name) scope.names ≡ None = none_is (first_by (is_called name) scope.names) (sym (place_some (is_called name) scope.names) ∙ not_true (is_some (seen_of scope name)) (and_parts (not (is_some (seen_of scope name))) (is_some (seen_of inner name)) own).0) in
    let first : first_by (is_called name) xs ≡ Some s =
    sym (ap (λ (o : Option Seen). or_else o (first_by (is_called name) xs)) outside) ∙ sym (first_behind (is_called name) scope.names xs) ∙ ap (λ (l : List Seen). first_by (is_called name) l) (sym wider) ∙ sym (seen_first inner name) ∙ at in
    (meaning_mapped xs name ∙ ap (λ (o : Option Seen). option_map meant_by o) first, all_first (is_called name) xs s all first)

-- the bound names, as they were read
record Listed (xs : List Seen) (listed : List (List ℕ)) : Type 0 where
  named : map (λ (y : Seen). y.name) xs ≡ listed
  numbered : Numbered 0 xs

tied_bound : (table : Table) (scope inner : Scope) (xs : List Seen) (listed : List (List ℕ)) → inner.names ≡ scope.names ++ xs → Tied table scope inner listed → Listed xs listed
tied_bound table scope inner xs listed wider t =
    let same : t.bound ≡ xs = sym (drop-append_seam scope.names t.bound) ∙ ap (λ (l : List Seen). drop (length scope.names) l) (sym t.are ∙ wider) ∙ drop-append_seam scope.names xs in
    record { named = subst (λ (l : List Seen). map (λ (y : Seen). y.name) l ≡ listed) same t.named; numbered = subst (λ (l : List Seen). Numbered 0 l) same t.numbered }

placed_at : (xs : List Seen) (listed : List (List ℕ)) → AllByRecursion IsBound xs → Listed xs listed → (before : List (List ℕ)) (name : List ℕ) (more : List (List ℕ)) → listed ≡ (before ++ name ∷ []) ++ more → is_among before name ≡ false → (m : Meant) × (meaning_of (map by_seen xs) name ≡ Some m) × (m.variable ≡ var.Local (short (length before)))
placed_at xs listed all l before name more are apart =
    let p = place_meant 0 xs before name more all l.numbered (l.named ∙ are) apart in
    (meant_by p.0, meaning_mapped xs name ∙ ap (λ (o : Option Seen). option_map meant_by o) p.1, ap (λ (k : SeenKind). variable_by k p.0.number) p.3 ∙ (let z : 0 + length before ≡ length before = omega arith in ap (λ (n : ℕ). var.Local n) (p.2 ∙ ap short z)))

module _ (around : Around) (sites : List Site) (monitor : ℕ) where
  -- ---- listeners

  -- what is known of a listener behind its event expression
  record Opened (l : Listening) (callbacks : ℕ) (body : Body) (s : State) (term : TypedTerm) (h : Here) : Type 0 where
    few : callbacks + length s.sites ≤ 65534
    bound : term.bound ≡ map bound_local (bound_in body.table s.scope (out-Listening l).event)
    bound_so : BoundAre (map by_seen (bound_in body.table s.scope (out-Listening l).event)) term.bound
    resolved : TermIs (record { around = around; names = h.names ++ map by_seen (bound_in body.table s.scope (out-Listening l).event); bound = map by_seen (bound_in body.table s.scope (out-Listening l).event); operands = term.operands }) (out-Listening l).event term.term

  module _ (named : Names) (callbacks : ℕ) (body : Body) (fit : Fit around monitor callbacks body) where
    pub term_at : (e : EventExpr) → Within (event_names e) named → (s : State) (h : Here) → (term_found body.table s.scope e).faults ≡ [] → Ready sites monitor s → Matches named h s
        → (BoundAre (map by_seen (bound_in body.table s.scope e)) (term_found body.table s.scope e).part.bound) × TermIs (record { around = around; names = h.names ++ map by_seen (bound_in body.table s.scope e); bound = map by_seen (bound_in body.table s.scope e); operands = (term_found body.table s.scope e).part.operands }) e (term_found body.table s.scope e).part.term
    term_at e w s h none r m =
        let inner = inner_of body.table s.scope e in
        let wide = inner_wider body.table s.scope e in
        let xs = bound_in body.table s.scope e in
        let more : xs ≡ wide.more = behind_is s.scope inner wide in
        let wider : inner.names ≡ s.scope.names ++ xs = wide.are ∙ ap (λ (l : List Seen). s.scope.names ++ l) (sym more) in
        let known : Agrees (h.names ++ map by_seen xs) inner (event_names e) = agrees_fewer (h.names ++ map by_seen xs) inner (event_names e) named w (agrees_more h.names s.scope inner xs (map by_seen xs) named wider (λ name. meaning_mapped xs name) m.names) in
        let names = h.names ++ map by_seen xs in
        let listed = (term_read body.table s.scope inner e false false [] nothing_yet).after.names in
        let bound_so : AllByRecursion IsBound xs = subst (λ (ys : List Seen). AllByRecursion IsBound ys) (sym more) wide.bound in
        let ties = expr_ties body.table s.scope inner e in
        let tied = (ties.ties false false [] s.scope nothing_yet (record { bound = []; are = sym (append-nil s.scope.names); named = refl; numbered = tt })).where_clear none in
        let placed = placed_at xs listed bound_so (tied_bound body.table s.scope inner xs listed wider tied) in
        let thus = terms_stay around names (map by_seen xs) listed body.table s.scope inner fit.types (fit.acts inner (wide.own ∙ r.own) (wide.actions ∙ r.actions)) (owned_at s.scope inner xs wider bound_so) placed e known false false [] nothing_yet (record { few = omega arith; limit = omega arith }) in
        let stays = thus.where_clear none in (
          subst (λ (ys : List Seen). BoundAre (map by_seen ys) (map bound_local ys)) (sym more) (bound_are wide.more wide.bound),
          stays.good (term_found body.table s.scope e).part.operands (record { more = []; are = sym (append-nil _); more_names = []; names_are = sym (append-nil listed) }),
        )

    listening : (l : Listening) → Within (event_names (out-Listening l).event) named → (takes : Bool) (s : State) (h : Here) → on_codes body takes s ≡ [] → (term_found body.table s.scope (out-Listening l).event).faults ≡ [] → Ready sites monitor s → Matches named h s → Opened l callbacks body s (term_found body.table s.scope (out-Listening l).event).part h
    listening l w takes s h codes none r m =
        let code = no_when (nat_le 65535 (body.bodies + body.callbacks + length s.sites) || nat_le 65000 (length s.scope.names)) 4 (no_both (when (not takes) 9) (when (nat_le 65535 (body.bodies + body.callbacks + length s.sites) || nat_le 65000 (length s.scope.names)) 4) codes).1 in
        let few = (or_parts (nat_le 65535 (body.bodies + body.callbacks + length s.sites)) (nat_le 65000 (length s.scope.names)) code).0 in
        let term = term_at (out-Listening l).event w s h none r m in
        let is = fit.callbacks_are in
        record { few = grind (arith, nat_tests); bound = refl; bound_so = term.0; resolved = term.1 }

  -- ---- the callback

  module _ (named : Names) (callbacks : ℕ) (body : Body) (fit : Fit around monitor callbacks body) (l : Listening) (part : Part) (so : ForPart around sites monitor (out-Listening l).callback part) (within_named : Within part.names named) where
    abbrev start : State → State
    start s = callback_start (captured_in part.names s.scope.names) (bound_in body.table s.scope (out-Listening l).event) s

    abbrev inside : State → Found (After State Stmt)
    inside s = part.reads (in_callback body) (start s)

    inside_fit : Fit around monitor (short (callbacks + 1)) (in_callback body)
    inside_fit = record { types = fit.types; acts = fit.acts; spawned = fit.spawned; callbacks_are = ap (λ (n : ℕ). short (n + 1)) fit.callbacks_are }

    inside_claim : (s : State) → Claim sites monitor part.names (short (callbacks + 1)) (S around sites monitor (out-Listening l).callback) (start s) (inside s)
    inside_claim s = so.claims part.names (short (callbacks + 1)) (in_callback body) inside_fit (λ name h. h) (start s)

    abbrev site : State → TypedTerm → Site
    site s term = site_of term (captured_in part.names s.scope.names) s (inside s).part

    longer : (s : State) (term : TypedTerm) → Extends s.sites (inside s).part.state.sites → Extends s.sites (insert (inside s).part.state.sites (length s.sites) (site s term))
    longer s term e = record {
      long = let p = e.long in let n : length (insert (inside s).part.state.sites (length s.sites) (site s term)) ≡ length (inside s).part.state.sites + 1 = length-insert (inside s).part.state.sites (length s.sites) (site s term) e.long in omega arith;
      at = λ i x h. insert_below (length s.sites) (inside s).part.state.sites (site s term) i x (slice_get_within s.sites i x h) (e.at i x h);
    }

    inner_fits : (s : State) (term : TypedTerm) → callbacks ≤ 65534 → length s.sites ≤ length (inside s).part.state.sites → Fits sites monitor callbacks s (with_site (site s term) s (inside s).part.state) → Fits sites monitor (short (callbacks + 1)) (start s) (inside s).part.state
    inner_fits s term few le fits = record {
      at = λ i x from e.
          let small : short (callbacks + 1) + i ≡ callbacks + suc i = omega arith in
          ap (slice_get sites) small ∙ fits.at (suc i) x (omega arith) (insert_above (length s.sites) (inside s).part.state.sites (site s term) i from le ∙ e);
    }

    site_there : (s : State) (term : TypedTerm) → callbacks + length s.sites ≤ 65534 → length s.sites ≤ length (inside s).part.state.sites → Fits sites monitor callbacks s (with_site (site s term) s (inside s).part.state) → slice_get sites (site_number body s) ≡ Some (site s term)
    site_there s term few le fits =
        let is = fit.callbacks_are in
        let small : site_number body s ≡ callbacks + length s.sites = omega arith in
        ap (slice_get sites) small ∙ fits.at (length s.sites) (site s term) (omega arith) (insert_at (length s.sites) (inside s).part.state.sites (site s term) le)

    abbrev Opens : State → TypedTerm → Here → Type 0
    Opens s term h = Opened l callbacks body s term h

    callback_claim : (term : TypedTerm) (s : State) → Claim sites monitor named callbacks (λ n h k. (h ≡ k) × (Opens s term h → ListenIs around sites h l n)) s (callback_read body (out-Listening l).event part term s)
    unfolding reads_by within
    callback_claim term s =
        let c = inside_claim s in
        record {
          grows = grown_same s.scope.names;
          own = refl;
          actions = refl;
          sites = longer s term c.sites;
          holds = λ h none fits r m. record {
            after = h;
            good = (
              refl,
              λ o.
                  let le = c.sites.long in
                  let few = o.few in
                  let begins = start_matches h s part.names (bound_in body.table s.scope (out-Listening l).event) (agrees_fewer h.names s.scope part.names named within_named m.names) in
                  let held = c.holds (starts h.names (map local_of (captured_in part.names s.scope.names)) (map by_seen (bound_in body.table s.scope (out-Listening l).event))) none (inner_fits s term (omega arith) le fits) (record { own = r.own; actions = r.actions }) begins in
                  let done = held.matches in
                  rule.listen (site_there s term few le fits) o.bound_so o.resolved held.good refl (sym done.locals),
            );
            matches = record { names = m.names; next = m.next; locals = m.locals };
          };
        }

  looked : (l : Listening) (part : Part) → ForPart around sites monitor (out-Listening l).callback part → (named : Names) (callbacks : ℕ) (body : Body) → Fit around monitor callbacks body → Within (event_names (out-Listening l).event) named → Within part.names named → (takes : Bool) (s : State)
      → Claim sites monitor named callbacks (λ n h k. (on_codes body takes s ≡ []) → Still sites monitor named callbacks (Listens around sites monitor l) n h k) s ((looks (λ (t : State). term_found body.table t.scope (out-Listening l).event) >>= λ term. callback_read body (out-Listening l).event part term) s)
  unfolding looks
  looked l part so named callbacks body fit we wp takes s =
      let e = (out-Listening l).event in
      let term = (term_found body.table s.scope e).part in
      claim_behind sites monitor named callbacks (λ x h. (on_codes body takes s ≡ []) → Opened l callbacks body s x h) (λ n h k. (h ≡ k) × (Opened l callbacks body s term h → ListenIs around sites h l n)) (λ n h k. (on_codes body takes s ≡ []) → Still sites monitor named callbacks (Listens around sites monitor l) n h k)
      (looks (λ (t : State). term_found body.table t.scope e)) (λ term. callback_read body e part term) s
      (claim_looks sites monitor named callbacks (λ x h. (on_codes body takes s ≡ []) → Opened l callbacks body s x h) (λ (t : State). term_found body.table t.scope e) s (λ h none r m codes. listening named callbacks body fit l we takes s h codes none r m))
      (callback_claim named callbacks body fit l part so wp term s)
      (λ a c y p q codes. (q.0, q.1 (p codes)))

  -- a listener
  on_so : (l : Listening) (part : Part) → ForPart around sites monitor (out-Listening l).callback part → ForOn around sites monitor l (record { names = either (event_names (out-Listening l).event) part.names; reads = λ body takes. listen_read body takes (out-Listening l).spot (out-Listening l).event part })
  unfolding tells
  on_so l part so = record {
    claims = λ named callbacks body fit w takes s.
        let e = (out-Listening l).event in
        let we : Within (event_names e) named = λ name h. w name (or_left (event_names e name) (part.names name) h) in
        let wp : Within part.names named = λ name h. w name (or_right (event_names e name) (part.names name) h) in
        claim_behind sites monitor named callbacks (λ x h. (on_codes body takes s ≡ []) × (s.scope.monitor ≡ monitor)) (λ n h k. (on_codes body takes s ≡ []) → Still sites monitor named callbacks (Listens around sites monitor l) n h k) (Still sites monitor named callbacks (Listens around sites monitor l)) (tells (out-Listening l).spot (on_codes body takes)) (λ _. looks (λ (t : State). term_found body.table t.scope e) >>= λ term. callback_read body e part term) s
        (claim_tells sites monitor named callbacks (out-Listening l).spot (on_codes body takes) s)
        (looked l part so named callbacks body fit we wp takes s)
        (λ a c y p q. q p.0);
  }

  -- ---- every statement

  abbrev node_at : StmtNode → NodePart
  node_at = fold-StmtNode NodePart OnPart Part node_part on_part stmt_part

  abbrev on_at : Listening → OnPart
  on_at = fold-Listening NodePart OnPart Part node_part on_part stmt_part

  abbrev part_at : Tree → Part
  part_at = fold-Stmt NodePart OnPart Part node_part on_part stmt_part

  ForN : StmtNode → Type 0
  ForN n = ForNode around sites monitor (out-StmtNode n) (node_at n)

  ForL : Listening → Type 0
  ForL l = ForOn around sites monitor l (on_at l)

  ForT : Tree → Type 0
  ForT t = ForPart around sites monitor t (part_at t)

  abbrev Nodes : Type 0
  Nodes = (n : StmtNode) × ForN n

  abbrev Ons : Type 0
  Ons = (l : Listening) × ForL l

  abbrev Parts : Type 0
  Parts = (t : Tree) × ForT t

  abbrev node_trees : StmtNode-F Nodes Ons Parts → StmtForm
  node_trees y = map-StmtNode Nodes Ons Parts StmtNode Listening Tree (λ e. e.0) (λ e. e.0) (λ e. e.0) y

  abbrev node_parts : StmtForm → StmtNode-F NodePart OnPart Part
  node_parts x = map-StmtNode StmtNode Listening Tree NodePart OnPart Part node_at on_at part_at x

  node_layer : (y : StmtNode-F Nodes Ons Parts) → ForNode around sites monitor (node_trees y) (node_part (node_parts (node_trees y)))
  unfolding ForL ForT
  node_layer (tree.Block ps) = record { claims = λ named callbacks body fit w spot s. block_claim around sites monitor part_at named callbacks body fit ps w s }
  node_layer (tree.On l) = record { claims = λ named callbacks body fit w spot s. on_claim around sites monitor part_at on_at named callbacks body fit l w s }
  node_layer (tree.Declare type name) = record { claims = λ named callbacks body fit w spot s. declare_claim around sites monitor named callbacks body fit type name s }
  node_layer (tree.DeclareAs type name e) = record { claims = λ named callbacks body fit w spot s. declare_as_claim around sites monitor named callbacks body fit type name e w s }
  node_layer (tree.DeclareOn type name l) = record { claims = λ named callbacks body fit w spot s. declare_on_claim around sites monitor part_at on_at named callbacks body fit type name l w s }
  node_layer (tree.Assign p e) = record { claims = λ named callbacks body fit w spot s. assign_claim around sites monitor named callbacks body fit p e w s }
  node_layer (tree.AssignOn p l) = record { claims = λ named callbacks body fit w spot s. assign_on_claim around sites monitor part_at on_at named callbacks body fit p l w s }
  node_layer (tree.If e p None) = record { claims = λ named callbacks body fit w spot s. if_claim around sites monitor part_at on_at named callbacks body fit e p None w s }
  node_layer (tree.If e p (Some q)) = record { claims = λ named callbacks body fit w spot s. if_claim around sites monitor part_at on_at named callbacks body fit e p (Some q) w s }
  node_layer (tree.While e ps) = record { claims = λ named callbacks body fit w spot s. while_claim around sites monitor part_at on_at named callbacks body fit e ps w s }
  node_layer (tree.For name e ps) = record { claims = λ named callbacks body fit w spot s. for_claim around sites monitor part_at on_at named callbacks body fit name e ps w s }
  node_layer tree.Break = record { claims = λ named callbacks body fit w spot s. jump_claim around sites monitor named callbacks body fit tree.Break typed.Break spot made.Break made.outs-Break (λ h. rule.break) s }
  node_layer tree.Continue = record { claims = λ named callbacks body fit w spot s. jump_claim around sites monitor named callbacks body fit tree.Continue typed.Continue spot made.Continue made.outs-Continue (λ h. rule.continue) s }
  node_layer (tree.Return e) = record { claims = λ named callbacks body fit w spot s. return_claim around sites monitor named callbacks body fit spot e w s }
  node_layer tree.Die = record { claims = λ named callbacks body fit w spot s. claim_as sites monitor named callbacks (Done made.Die) (N around sites monitor tree.Die) s _ (λ h k q. done_as (N around sites monitor tree.Die) made.Die _ h k q (at_form around sites monitor tree.Die typed.Die made.Die h h made.outs-Die rule.die)) (done_claim around sites monitor named callbacks body fit made.Die s) }
  node_layer (tree.Print e) = record { claims = λ named callbacks body fit w spot s. one_expr around sites monitor named callbacks body fit (N around sites monitor (tree.Print e)) (exactly value.Text) refl e w (λ x. made.Print x) s (λ h x p. at_form around sites monitor (tree.Print e) (typed.Print x) (made.Print x) h h (made.outs-Print x) (rule.print p)) }
  node_layer (tree.Log e level) = record { claims = λ named callbacks body fit w spot s. one_expr around sites monitor named callbacks body fit (N around sites monitor (tree.Log e level)) (exactly value.Text) refl e w (λ x. made.Log x level) s (λ h x p. at_form around sites monitor (tree.Log e level) (typed.Log x level) (made.Log x level) h h (made.outs-Log x level) (rule.log p)) }
  node_layer (tree.Route e) = record { claims = λ named callbacks body fit w spot s. one_expr around sites monitor named callbacks body fit (N around sites monitor (tree.Route e)) (asked Event true) refl e w (λ x. made.Route x) s (λ h x p. at_form around sites monitor (tree.Route e) (typed.Route x) (made.Route x) h h (made.outs-Route x) (rule.route p)) }
  node_layer (tree.Send e f) = record { claims = λ named callbacks body fit w spot s. send_claim around sites monitor named callbacks body fit e f w s }
  node_layer (tree.Spawn name es to) = record { claims = λ named callbacks body fit w spot s. spawn_claim around sites monitor named callbacks body fit spot name es to w s }
  node_layer (tree.Monitor name es) = record { claims = λ named callbacks body fit w spot s. monitor_claim around sites monitor named callbacks body fit spot name es w s }
  node_layer (tree.Call e) = record { claims = λ named callbacks body fit w spot s. one_expr around sites monitor named callbacks body fit (N around sites monitor (tree.Call e)) (asked Statement false) refl e w (λ x. made.Call x) s (λ h x p. at_form around sites monitor (tree.Call e) (typed.Call x) (made.Call x) h h (made.outs-Call x) (rule.call p)) }

  node_case : (x : StmtForm) (y : StmtNode-F Nodes Ons Parts) → node_trees y ≡ x → ForN (roll-StmtNode x)
  unfolding ForN
  node_case x y is = subst (λ (z : StmtForm). ForNode around sites monitor (out-StmtNode (roll-StmtNode z)) (node_at (roll-StmtNode z))) is
      (subst (λ (f : StmtForm). ForNode around sites monitor f (node_at (roll-StmtNode (node_trees y)))) (sym (out-roll-StmtNode (node_trees y)))
      (subst (λ (p : NodePart). ForNode around sites monitor (node_trees y) p) (sym (fold-roll-StmtNode NodePart OnPart Part node_part on_part stmt_part (node_trees y))) (node_layer y)))

  abbrev on_trees : Listening-F Nodes Ons Parts → Listening-F StmtNode Listening Tree
  on_trees y = map-Listening Nodes Ons Parts StmtNode Listening Tree (λ e. e.0) (λ e. e.0) (λ e. e.0) y

  on_case : (x : Listening-F StmtNode Listening Tree) (y : Listening-F Nodes Ons Parts) → on_trees y ≡ x → ForL (roll-Listening x)
  unfolding ForL ForT
  on_case x y is = subst (λ (z : Listening-F StmtNode Listening Tree). ForOn around sites monitor (roll-Listening z) (on_at (roll-Listening z))) is
      (subst (λ (p : OnPart). ForOn around sites monitor (roll-Listening (on_trees y)) p) (sym (fold-roll-Listening NodePart OnPart Part node_part on_part stmt_part (on_trees y)))
      (subst (λ (d : Listening-F StmtNode Listening Tree). ForOn around sites monitor (roll-Listening (on_trees y)) (record { names = either (event_names d.event) (part_at d.callback).names; reads = λ body takes. listen_read body takes d.spot d.event (part_at d.callback) })) (out-roll-Listening (on_trees y))
      (on_so (roll-Listening (on_trees y)) (part_at (out-Listening (roll-Listening (on_trees y))).callback)
      (subst (λ (d : Listening-F StmtNode Listening Tree). ForPart around sites monitor d.callback (part_at d.callback)) (sym (out-roll-Listening (on_trees y))) (y.callback.1)))))

  abbrev stmt_trees : Stmt-F Nodes Ons Parts → Stmt-F StmtNode Listening Tree
  stmt_trees y = map-Stmt Nodes Ons Parts StmtNode Listening Tree (λ e. e.0) (λ e. e.0) (λ e. e.0) y

  -- a statement by its form
  stmt_so : (t : Tree) (spot : Spot) (p : NodePart) → ForNode around sites monitor (stmt_form t) p → ForPart around sites monitor t (record { names = p.names; reads = λ body. p.reads body spot })
  stmt_so t spot p so = record { claims = λ named callbacks body fit w s. claim_as sites monitor named callbacks (N around sites monitor (stmt_form t)) (S around sites monitor t) s (p.reads body spot s) (λ h k n. rule.is n) (so.claims named callbacks body fit w spot s) }

  stmt_case : (x : Stmt-F StmtNode Listening Tree) (y : Stmt-F Nodes Ons Parts) → stmt_trees y ≡ x → ForT (roll-Stmt x)
  unfolding ForT ForN
  stmt_case x y is = subst (λ (z : Stmt-F StmtNode Listening Tree). ForPart around sites monitor (roll-Stmt z) (part_at (roll-Stmt z))) is
      (subst (λ (p : Part). ForPart around sites monitor (roll-Stmt (stmt_trees y)) p) (sym (fold-roll-Stmt NodePart OnPart Part node_part on_part stmt_part (stmt_trees y)))
      (stmt_so (roll-Stmt (stmt_trees y)) y.spot (node_at y.node.0)
      (subst (λ (d : Stmt-F StmtNode Listening Tree). ForNode around sites monitor (out-StmtNode d.node) (node_at y.node.0)) (sym (out-roll-Stmt (stmt_trees y))) (y.node.1))))

  pub stmt_reads : (t : Tree) → ForPart around sites monitor t (part_of t)
  unfolding part_of ForT
  stmt_reads t = ind-Stmt ForN ForL ForT node_case on_case stmt_case t
