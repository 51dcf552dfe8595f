-- The event types of files in which no fault is found: none contains itself, and each has few fields and few leaves.
use Rattle.std.proofs.Common.{◌≡◌, ◌+◌, ◌<◌, ◌≤◌, ◌∷◌, ◌++◌, ◌||◌, if◌then◌else◌}
use Rattle.program_laws.proofs.Common.{ℕ, length, map, List, [], Bool, true, false, nat_le, nat_lt, sym, subst, arith, AllByRecursion, length-append, sum_by-append, sum_by-cons, or_parts, leb-false, Declaration, EventDecl, FieldDecl, Gathered, contains_itself, field_count, told, numbers, count_of, field_faults, fields_faults, event_faults, declaration_faults, faults_from, gathered_after, with_event, with_monitor, units_faults, none_gathered, in_file, declarations_of, names_of, with_kind, kinds_after, kinds_of, has_name, type_by}
use Rattle.std.proofs.lemmas.Bool.{ltb-false}
use Rattle.epl_tree.specs.declared.unit.Declaration.TheVariants as declaration
use Rattle.epl_tree.specs.declared.unit.Unit.{Unit as File}
use Rattle.type_table.proofs.Chosen.{kinds_append}
use Rattle.type_table.specs.Chains.{holds, whole_width}
use Rattle.type_table.specs.Gathers.{when, is_named}
use Rattle.program_laws.proofs.Shapes.Lists.{all_append, no_both, no_told, no_when, no_map}

-- an event type in which no fault is found
pub record KindFine (kinds : List EventDecl) (e : EventDecl) : Type 0 where
  pub apart : contains_itself kinds e.name.text ≡ false
  pub fields : length e.fields ≤ 64
  pub leaves : count_of kinds e.fields ≤ 256

module _ (kinds : List EventDecl) where
  field_few : (before : List FieldDecl) (f : FieldDecl) → field_faults kinds before f ≡ [] → (length before < 64) × (count_of kinds (before ++ f ∷ []) ≤ 256)
  field_few before f none =
      let one = no_both (type_by (numbers kinds) f.shape).faults (told f.name.spot (when (is_named f.name.text before) 1 ++ when (holds kinds f.shape) 3 ++ when (nat_le 64 (length before) || nat_lt 256 (count_of kinds (before ++ f ∷ []))) 4)) none in
      let codes = no_both (when (is_named f.name.text before) 1 ++ when (holds kinds f.shape) 3) (when (nat_le 64 (length before) || nat_lt 256 (count_of kinds (before ++ f ∷ []))) 4) (no_told f.name.spot _ one.1) in
      let few = or_parts (nat_le 64 (length before)) (nat_lt 256 (count_of kinds (before ++ f ∷ []))) (no_when _ 4 codes.1) in
      (leb-false 64 (length before) few.0, ltb-false 256 (count_of kinds (before ++ f ∷ [])) few.1)

  abbrev leaves_of : FieldDecl → ℕ
  leaves_of f = field_count (whole_width kinds) f.shape

  fields_few : (before fs : List FieldDecl) → length before ≤ 64 → count_of kinds before ≤ 256 → fields_faults kinds before fs ≡ [] → (length before + length fs ≤ 64) × (count_of kinds before + count_of kinds fs ≤ 256)
  fields_few before [] few narrow none = (omega arith, omega arith)
  fields_few before (f ∷ fs) few narrow none =
      let split = no_both (field_faults kinds before f) (fields_faults kinds (before ++ f ∷ []) fs) none in
      let one = field_few before f split.0 in
      let lt = one.0 in
      let long = length-append before (f ∷ []) in
      let rest = fields_few (before ++ f ∷ []) fs (omega (arith, lt, long)) one.1 split.1 in
      let a = rest.0 in
      let b = rest.1 in
      let sum : count_of kinds (before ++ f ∷ []) ≡ count_of kinds before + count_of kinds (f ∷ []) = sum_by-append leaves_of before (f ∷ []) in
      let here : count_of kinds (f ∷ []) ≡ leaves_of f + count_of kinds [] = sum_by-cons leaves_of f [] in
      let more : count_of kinds (f ∷ fs) ≡ leaves_of f + count_of kinds fs = sum_by-cons leaves_of f fs in
      (omega (arith, long, a), omega (arith, sum, here, more, b))

  kind_fine : (g : Gathered) (e : EventDecl) → event_faults kinds g e ≡ [] → KindFine kinds e
  kind_fine g e none =
      let split = no_both (told e.name.spot (when (has_name g.names e.name.text) 1 ++ when (nat_le 1000 g.events || contains_itself kinds e.name.text) 4)) (fields_faults kinds [] e.fields) none in
      let codes = no_both (when (has_name g.names e.name.text) 1) (when (nat_le 1000 g.events || contains_itself kinds e.name.text) 4) (no_told e.name.spot _ split.0) in
      let few = fields_few [] e.fields (omega arith) (omega arith) split.1 in
      let a = few.0 in
      let b = few.1 in
      record { apart = (or_parts (nat_le 1000 g.events) (contains_itself kinds e.name.text) (no_when _ 4 codes.1)).1; fields = omega (arith, a); leaves = omega (arith, b) }

  -- ---- in order

  abbrev Fine : List EventDecl → Type 0
  Fine acc = AllByRecursion (λ e. KindFine kinds e) acc

  fine_kind : (acc : List EventDecl) (g : Gathered) (e : EventDecl) → Fine acc → event_faults kinds g e ≡ [] → Fine (with_kind acc e)
  fine_kind acc g e fine none = by (has_name (names_of acc) e.name.text)
    where
      by : (b : Bool) → Fine (if b then acc else acc ++ e ∷ [])
      by true = fine
      by false = all_append (λ e. KindFine kinds e) acc (e ∷ []) fine (kind_fine g e none, tt)

  fine_declarations : (file : ℕ) (acc : List EventDecl) (g : Gathered) (ds : List Declaration) → Fine acc → faults_from kinds file g ds ≡ [] → Fine (kinds_after acc ds)
  fine_declarations file acc g [] fine none = fine
  fine_declarations file acc g (declaration.Event e ∷ ds) fine none =
      let split = no_both (event_faults kinds g e) (faults_from kinds file (with_event g e.name.text) ds) none in
      fine_declarations file (with_kind acc e) (with_event g e.name.text) ds (fine_kind acc g e fine split.0) split.1
  fine_declarations file acc g (declaration.Monitor m ∷ ds) fine none =
      let split = no_both (declaration_faults kinds g (declaration.Monitor m)) (faults_from kinds file (with_monitor (numbers kinds) file g m) ds) none in
      fine_declarations file acc (with_monitor (numbers kinds) file g m) ds fine split.1

  fine_files : (file : ℕ) (acc : List EventDecl) (g : Gathered) (units : List File) → Fine acc → units_faults kinds file g units ≡ [] → Fine (kinds_after acc (declarations_of units))
  fine_files file acc g [] fine none = fine
  fine_files file acc g (u ∷ units) fine none =
      let split = no_both (map (in_file file) (faults_from kinds file g u.declarations)) (units_faults kinds (file + 1) (gathered_after kinds file g u.declarations) units) none in
      subst Fine (sym (kinds_append acc u.declarations (declarations_of units)))
      (fine_files (file + 1) (kinds_after acc u.declarations) (gathered_after kinds file g u.declarations) units (fine_declarations file acc g u.declarations fine (no_map (in_file file) (faults_from kinds file g u.declarations) split.0)) split.1)

-- each event type of the files
pub kinds_fine : (units : List File) → units_faults (kinds_of units) 0 none_gathered units ≡ [] → AllByRecursion (λ e. KindFine (kinds_of units) e) (kinds_of units)
kinds_fine units none = fine_files (kinds_of units) 0 [] none_gathered units tt none
