-- Parts with an inner beginning: what is visible in them alone, callbacks, and the bodies of actions.
use Rattle.std.proofs.Common.{◌≡◌, ℕ, List, [], length, map, Option, Ok, Err, sym, ap, subst, ◌∙◌}
use Rattle.std.specs.List.{insert}
use Rattle.epl_values.specs.declared.shape.Shape.{Shape}
use Rattle.epl_tree.specs.declared.event.EventExpr.{EventExpr}
use Rattle.epl_tree.specs.declared.statement.Stmt.{Stmt as Tree}
use Rattle.epl_tree.specs.declared.unit.Member.{Member}
use Rattle.typed_program.specs.declared.program.TypedTerm.{TypedTerm}
use Rattle.typed_program.specs.declared.statement.Stmt.{Stmt}
use Rattle.type_table.specs.declared.fault.Refusal.{Refusal}
use Rattle.type_table.specs.declared.scope.Seen.{Seen}
use Rattle.type_table.specs.declared.table.Table.{Table}
use Rattle.type_table.specs.Scopes.{cut_to}
use Rattle.stmt_check.specs.declared.made.Made.{Made}
use Rattle.stmt_check.specs.declared.state.State.{State}
use Rattle.stmt_check.specs.Actions.{body_around, body_start, body_end, body_read}
use Rattle.stmt_check.specs.Bodies.{Around, in_callback, scoped, captured_in, bound_in, callback_start, callback_end, site_of, site_number}
use Rattle.stmt_check.specs.Captures.{Names, stmt_names}
use Rattle.stmt_check.specs.Statements.{part_of, callback_read, row_read}
use Rattle.stmt_check.specs.Steps.{After, Reads, Goes, reads_by, within}
use Rattle.stmt_check.proofs.Going.{goes_as, goes_by, goes_from, goes_within, goes_within_err}
use Rattle.stmt_check.proofs.Naming.{names-part}

pub goes_scoped : {A : Type 0} {m : Reads State A} {x : A} {s t u : State} {len : ℕ} → Goes m s t (Ok x) → len ≡ length s.scope.names → u ≡ record t { scope = cut_to t.scope len } → Goes (scoped m) s u (Ok x)
goes_scoped {A = A} {x = x} {t = t} h is left =
    let cut : ℕ → State = λ n. record t { scope = cut_to t.scope n } in
    let at : State → After State A = λ v. record { part = x; state = v } in
    goes_within _ _ h (ap at (ap cut (sym is) ∙ sym left))

pub goes_scoped_err : {A : Type 0} {m : Reads State A} {e : Refusal} {s t : State} (u : State) → Goes m s t (Err e) → Goes (scoped m) s u (Err e)
goes_scoped_err u h = goes_within_err _ _ u h

module _ (around : Around) (event : EventExpr) (callback : Tree) (term : TypedTerm) where
  -- a callback, where these are what it names
  abbrev named_read : Names → Reads State ℕ
  named_read names = reads_by (λ s. within (callback_start (captured_in names s.scope.names) (bound_in around.table s.scope event)) (callback_end around term (captured_in names s.scope.names)) ((part_of callback).reads (in_callback around)))

  pub callback_done : (s : State) {term' : TypedTerm} {captured : List Seen} {at : ℕ} {begin t s1 new : State} {body : Stmt} {n : ℕ} → term' ≡ term → captured ≡ captured_in (stmt_names callback) s.scope.names → at ≡ length s.sites → begin ≡ callback_start (captured_in (stmt_names callback) s.scope.names) (bound_in around.table s.scope event) s → s1 ≡ record s { sites = [] } → Goes ((part_of callback).reads (in_callback around)) begin t (Ok body) → n ≡ site_number around s → new ≡ record s1 { whole = t.whole; sites = insert t.sites at (site_of term' captured s1 (record { part = body; state = t })) } → Goes (callback_read around event (part_of callback) term) s new (Ok n)
  callback_done s {term'} {captured} {at} {begin} {t} {s1} {new} {body} {n} term_is captured_is at_is begin_is s1_is h n_is new_is =
      let named : List Seen = captured_in (stmt_names callback) s.scope.names in
      let bare : State = record s { sites = [] } in
      let made : TypedTerm → State → ℕ → List Seen → State = λ x v k l. record v { whole = t.whole; sites = insert t.sites k (site_of x l v (record { part = body; state = t })) } in
      let all : new ≡ made term bare (length s.sites) named = new_is ∙ ap (λ x. made x s1 at captured) term_is ∙ ap (λ v. made term v at captured) s1_is ∙ ap (λ k. made term bare k captured) at_is ∙ ap (made term bare (length s.sites)) captured_is in
      let pair : State → After State ℕ = λ v. record { part = site_number around s; state = v } in
      let last : ℕ → After State ℕ = λ k. record { part = k; state = new } in
      goes_as (ap named_read (names-part callback)) (goes_by _ (goes_within _ _ (goes_from (sym begin_is) h) (ap pair (sym all) ∙ ap last (sym n_is))))

  pub callback_stop : (s : State) {begin t : State} {e : Refusal} (new : State) → begin ≡ callback_start (captured_in (stmt_names callback) s.scope.names) (bound_in around.table s.scope event) s → Goes ((part_of callback).reads (in_callback around)) begin t (Err e) → Goes (callback_read around event (part_of callback) term) s new (Err e)
  callback_stop s new begin_is h = goes_as (ap named_read (names-part callback)) (goes_by _ (goes_within_err _ _ new (goes_from (sym begin_is) h)))

module _ (table : Table) (before : List Member) (trees : List Tree) (params : List Shape) (shape : Option Shape) where
  pub body_done : (made : Made) {begin t : State} {row : List Stmt} {made1 new : Made} → begin ≡ body_start table before params made → made1 ≡ record made { sites = [] } → Goes (row_read (body_around table shape made1) (map part_of trees)) begin t (Ok row) → new ≡ (body_end params shape made1 (record { part = row; state = t })).state → Goes (body_read table before trees params shape) made new (Ok tt)
  body_done made {begin} {t} {row} {made1} {new} begin_is made1_is h new_is =
      let all : Made → After Made (Unit {0}) = λ v. body_end params shape v (record { part = row; state = t }) in
      let pair : Made → After Made (Unit {0}) = λ v. record { part = tt; state = v } in
      let run : Goes (row_read (body_around table shape made) (map part_of trees)) begin t (Ok row) = subst (λ v. Goes (row_read (body_around table shape v) (map part_of trees)) begin t (Ok row)) made1_is h in
      goes_by _ (goes_within _ _ (goes_from (sym begin_is) run) (ap all (sym made1_is) ∙ ap pair (sym new_is)))

  pub body_stop : (made : Made) {begin t : State} {made1 : Made} {e : Refusal} (new : Made) → begin ≡ body_start table before params made → made1 ≡ record made { sites = [] } → Goes (row_read (body_around table shape made1) (map part_of trees)) begin t (Err e) → Goes (body_read table before trees params shape) made new (Err e)
  body_stop made {begin} {t} {e = e} new begin_is made1_is h =
      let run : Goes (row_read (body_around table shape made) (map part_of trees)) begin t (Err e) = subst (λ v. Goes (row_read (body_around table shape v) (map part_of trees)) begin t (Err e)) made1_is h in
      goes_by _ (goes_within_err _ _ new (goes_from (sym begin_is) run))
