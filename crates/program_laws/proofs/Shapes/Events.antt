-- An event expression without faults has its shapes, where those visible names are known that it names.
use Rattle.std.proofs.Common.{◌≡◌, ◌≤◌, ◌&&◌, ◌∷◌}
use Rattle.program_laws.proofs.Common.{ℕ, suc, Bool, true, List, [], map, length, drop, Option, Some, None, is_some, refl, sym, ap, ap₂, subst, ◌∙◌, AllByRecursion, list_all, find, bytes_eq, drop-append_seam, lt-ltb, bytes_eq-Decides, Shape, EventExpr, TypedExpr, Local, stands, Names, holds, shape_of, if_known, Scope, Seen, Table, local_of, local_shape, term_found, KnowsTable, KnowsName, bound_in, known_shape, event_names}
use Rattle.std.specs.Prelude.{cond, false}
use Rattle.epl_values.specs.declared.shape.Shape.TheVariants as shape
use Rattle.typed_program.specs.Shapes.{is_event, is_event_layer}
use Rattle.program_laws.specs.Known as known
use Rattle.stmt_check.specs.Captures.{Names as Named}
use Rattle.program_laws.proofs.Exprs.Standing.{event_stands}
use Rattle.program_laws.proofs.Shapes.Frames.{KnowsNamed}
use Rattle.program_laws.proofs.Shapes.Rules.{IsBound, AreBound, gives_value, TermAnswers}
use Rattle.program_laws.proofs.Terms.Bounds.{BoundAt, Numbered, seen_is}
use Rattle.program_laws.proofs.Terms.Settling.{term_fits, operands_hold, bound_numbered}
use Rattle.program_laws.proofs.Terms.States.{present}

-- ---- the names that are known

found_step : {A : Type 0} (P : A → Type 0) (q : A → Bool) (y : A) (xs : List A) (x : A) (b : Bool) → q y ≡ b → P y → (find q xs ≡ Some x → P x × (q x ≡ true)) → cond b (Some y) (find q xs) ≡ Some x → P x × (q x ≡ true)
found_step P q y xs x true is h rest at = let e : y ≡ x = cc in (subst P e h, ap q (sym e) ∙ is)
found_step P q y xs x false is h rest at = rest at

found_by : {A : Type 0} (P : A → Type 0) (q : A → Bool) (xs : List A) (x : A) → AllByRecursion P xs → find q xs ≡ Some x → P x × (q x ≡ true)
found_by P q [] x all h = absurd (cc)
found_by P q (y ∷ xs) x all h = found_step P q y xs x (q y) refl all.0 (λ at. found_by P q xs x all.1 at) h

module _ {named : Named} {table : Table} {names : Names} {scope : Scope} (k : KnowsNamed named table names scope) where
  -- the table is known there
  pub table_known : KnowsTable table names scope
  table_known = record { types = k.types; few = k.few; kinds = k.kinds; actions = k.actions }

  -- a name that is known wherever it stands is known where it is seen
  pub names_known : known.KnowsNamed names scope named
  names_known = record {
    known_at = λ name s is at.
        let found = found_by (λ (t : Seen). named t.name ≡ true → KnowsName names t) (λ (t : Seen). bytes_eq t.name name) scope.names s k.seen (sym (seen_is scope name) ∙ at) in
        found.0 (ap named ((bytes_eq-Decides s.name name).0 found.1) ∙ is);
  }

-- ---- what is evaluated, and what is bound

value_known : (o : Option Shape) → if_known (λ s. true) o ≡ is_some o
value_known None = refl
value_known (Some s) = refl

values_given : (names : Names) (es : List TypedExpr) → list_all (gives_value names) es ≡ list_all (present names) es
values_given names [] = refl
values_given names (e ∷ es) = ap₂ ◌&&◌ (ap (λ (b : Bool). holds names e && b) (value_known (shape_of e))) (values_given names es)

shape_same : (o : Option Shape) → local_shape o ≡ known_shape o
shape_same None = refl
shape_same (Some s) = refl

shapes_same : (xs : List Seen) → map (λ (b : Local). b.shape) (map local_of xs) ≡ map (λ (b : Seen). known_shape b.shape) xs
shapes_same [] = refl
shapes_same (x ∷ xs) = ap₂ (λ (s : Shape) (ss : List Shape). s ∷ ss) (shape_same x.shape) (shapes_same xs)

is_one : (n : ℕ) → is_event (shape.Event n) ≡ true
unfolding is_event
is_one n = ap is_event_layer (shape.outs-Event n)

is_bound : (names : Names) (n : ℕ) (b : Seen) → BoundAt names n b → IsBound names.types n b
is_bound names n b at =
    let shaped : known_shape b.shape ≡ shape.Event at.event = ap known_shape at.shaped in
    record {
      kind = at.is_bound;
      number = at.numbered;
      known = at.shaped ∙ ap (λ (s : Shape). Some s) (sym shaped);
      stands = ap (stands names.types) shaped ∙ event_stands names.types at.event (lt-ltb at.event (length names.types) at.there);
      event = ap is_event shaped ∙ is_one at.event;
    }

are_bound : (names : Names) (n : ℕ) (bs : List Seen) → Numbered names n bs → AreBound names.types n bs
are_bound names n [] all = tt
are_bound names n (b ∷ bs) all = (is_bound names n b all.0, are_bound names (suc n) bs all.1)

-- for every event expression
pub term_answers : (table : Table) (names : Names) (scope : Scope) (event : EventExpr) → KnowsNamed (event_names event) table names scope → (term_found table scope event).faults ≡ [] → TermAnswers names (bound_in table scope event) (term_found table scope event).part
term_answers table names scope event k none =
    let bounds = bound_numbered (table_known k) event (names_known k) none in
    let binds : bound_in table scope event ≡ bounds.seens = ap (drop (length scope.names)) bounds.behind ∙ drop-append_seam scope.names bounds.seens in
    record {
      fits = term_fits (table_known k) event (names_known k) none;
      operands = values_given names (term_found table scope event).part.operands ∙ operands_hold (table_known k) event (names_known k) none;
      few = subst (λ (bs : List Seen). length bs ≤ 64) (sym binds) bounds.few;
      same = ap (map (λ (b : Local). b.shape)) bounds.are ∙ shapes_same bounds.seens ∙ ap (map (λ (b : Seen). known_shape b.shape)) (sym binds);
      bound = subst (AreBound names.types 0) (sym binds) (are_bound names 0 bounds.seens bounds.numbered);
    }
