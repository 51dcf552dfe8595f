-- An event expression in which no fault is found, where those names are known that it names: its shapes, its operands and its bound names.
use Rattle.std.proofs.Common.{◌≡◌, ◌≤◌, ◌++◌}
use Rattle.program_laws.proofs.Common.{true, false, List, [], map, length, refl, sym, ap, ◌∙◌, arith, list_all, drop-append_seam, append-nil, length-map, EventExpr, TypedExpr, Local, Names, shape_of, fits_term, Scope, Seen, Table, KnowsTable, KnowsNamed, inner_of, bound_of, local_of, term_read, nothing_yet, term_found, event_names}
use Rattle.typed_program.specs.Terms.{Around, is_tenths}
use Rattle.program_laws.proofs.Terms.Bounds.{Numbered}
use Rattle.program_laws.proofs.Terms.Binding.{grows_self}
use Rattle.program_laws.proofs.Terms.States.{Settled, State, present, around}
use Rattle.program_laws.proofs.Terms.TemplatesRead.{Reads}
use Rattle.program_laws.proofs.Terms.TermsRead.{TermSo, expr_reads}

module _ {table : Table} {names : Names} {scope : Scope} (k : KnowsTable table names scope) (tree : EventExpr) (named : KnowsNamed names scope (event_names tree)) (none : (term_found table scope tree).faults ≡ []) where
  abbrev pub inner : Scope
  inner = inner_of table scope tree

  start : State names scope inner scope nothing_yet
  start = record { bound = []; is = ap (λ (l : List Seen). record scope { names = l }) (sym (append-nil scope.names)); numbered = tt; named = refl; few = omega arith; room = omega arith; sums = omega arith; leaves = omega arith; hold = λ z. refl }

  pub all_read : Reads names scope inner TermSo nothing_yet inner (term_read table scope inner tree false false [] nothing_yet).part (term_read table scope inner tree false false [] nothing_yet).after
  all_read = let reads = expr_reads table names scope inner k tree in let thus = reads.reads named false false [] scope nothing_yet start in thus.where_clear none

  settled : Settled names scope inner
  settled = let state = all_read.state in record { bound = state.bound; is = state.is; numbered = state.numbered }

  abbrev site_around : Around
  site_around = let part = (term_found table scope tree).part in record { types = names.types; operands = map shape_of part.operands; tenths = map is_tenths part.operands; bound = map (λ (b : Local). b.shape) part.bound }

  -- each template is of its event type, each operand of its field's shape, and each bound name an event
  pub term_fits : fits_term site_around (term_found table scope tree).part.term ≡ true
  unfolding around
  term_fits =
      let a = all_read in
      ap (λ (ops : List TypedExpr). fits_term (around names scope inner ops) (term_found table scope tree).part.term) (sym (append-nil (term_found table scope tree).part.operands))
      ∙ a.fit settled (grows_self inner) []

  -- what is evaluated at the `on` are values
  pub operands_hold : list_all (present names) (term_found table scope tree).part.operands ≡ true
  operands_hold = let state = all_read.state in state.hold settled

  -- the names that are bound stand behind the outer ones: events of types that are there, numbered in order, at most 64
  pub record Bounds : Type 0 where
    pub seens : List Seen
    pub behind : (inner_of table scope tree).names ≡ scope.names ++ seens
    pub numbered : Numbered names 0 seens
    pub are : (term_found table scope tree).part.bound ≡ map local_of seens
    pub few : length seens ≤ 64
    pub as_many : length seens ≡ length (term_read table scope inner tree false false [] nothing_yet).after.names

  pub bound_numbered : Bounds
  bound_numbered =
      let state = all_read.state in
      let few = state.few in
      let as_many : length state.bound ≡ length (term_read table scope inner tree false false [] nothing_yet).after.names = sym (length-map state.bound (λ (x : Seen). x.name)) ∙ ap length state.named in
      record {
        seens = state.bound;
        behind = ap (λ (s : Scope). s.names) state.is;
        numbered = state.numbered;
        few = omega arith;
        as_many = as_many;
        are = ap (λ (s : Scope). bound_of scope s) state.is ∙ ap (λ (xs : List Seen). map local_of xs) (drop-append_seam scope.names state.bound);
      }
