-- Event types: where no fault is found each is declared once, and its fields have their types.
use Rattle.std.proofs.Common.{◌≡◌, ℕ, ◌+◌, nat_le, nat_lt, Bool, true, false, ◌||◌, if◌then◌else◌, is_some, List, [], ◌∷◌, ◌++◌, map, length, Option, Some, None, refl, sym, ap, subst, ◌∙◌, append_assoc}
use Rattle.std.specs.Str.{bytes_eq}
use Rattle.epl_values.specs.declared.shape.EventShape.{EventShape}
use Rattle.epl_tree.specs.declared.unit.Declaration.{Declaration}
use Rattle.epl_tree.specs.declared.unit.Declaration.TheVariants as declaration
use Rattle.epl_tree.specs.declared.unit.EventDecl.{EventDecl}
use Rattle.epl_tree.specs.declared.unit.FieldDecl.{FieldDecl}
use Rattle.epl_tree.specs.declared.unit.MonitorDecl.{MonitorDecl}
use Rattle.epl_tree.specs.declared.unit.Unit.{Unit as File}
use Rattle.typed_program.specs.declared.program.Program.{Program}
use Rattle.type_table.specs.declared.gathered.Gathered.{Gathered}
use Rattle.type_table.specs.declared.table.Table.{Table}
use Rattle.type_table.specs.Found.{told}
use Rattle.type_table.specs.Gathers.{numbers, with_event, with_monitor, event_faults, fields_faults, field_faults, declaration_faults, faults_from, gathered_after, units_faults, none_gathered, in_file, field_shape, event_shape, is_named, count_of}
use Rattle.type_table.specs.Gathers.{when as cause}
use Rattle.type_table.specs.Chains.{holds, contains_itself}
use Rattle.type_table.specs.Kinds.{kinds_of, kinds_after, kind_step, declarations_of, names_of}
use Rattle.type_table.specs.Names.{has_name}
use Rattle.type_table.specs.Table.{event_of}
use Rattle.type_table.specs.Types.{type_by}
use Rattle.type_table.specs.declared.fault.CheckFault.{CheckFault}
use Rattle.std.specs.Prelude.{Result, Ok, Err, IfOk}
use Rattle.stmt_check.specs.Programs.{IsProgram, Checks}
use Rattle.name_resolution.specs.Types.{TypeIs}
use Rattle.name_resolution.specs.Resolves.{Resolves}
use Rattle.name_resolution.specs.Units.{declarations_in, events_in, FieldsAre, EventsAre}
use Rattle.name_resolution.specs.Units as rule
use Rattle.name_resolution.proofs.Sure.{no_both, no_told}
use Rattle.name_resolution.proofs.Through.{append_none, regroup}
use Rattle.name_resolution.proofs.TypesRead.{type_sure}
use Rattle.name_resolution.proofs.Claims.{first_by, first_behind, or_else}
use Rattle.name_resolution.proofs.Heads.{place_some}
use Rattle.name_resolution.proofs.FilesRead.{no_map, no_cause, same_numbers, program_monitors}

-- ---- a name among others

some_else : {A : Type 0} (a b : Option A) → is_some (or_else a b) ≡ false → (is_some a ≡ false) × (is_some b ≡ false)
some_else None b h = (refl, h)
some_else (Some x) b h = absurd (cc)

none_else : {A : Type 0} (a b : Option A) → is_some a ≡ false → is_some b ≡ false → is_some (or_else a b) ≡ false
none_else None b h k = k
none_else (Some x) b h k = h

has_both : (xs ys : List (List ℕ)) (name : List ℕ) → has_name (xs ++ ys) name ≡ is_some (or_else (first_by (bytes_eq name) xs) (first_by (bytes_eq name) ys))
has_both xs ys name = place_some (bytes_eq name) (xs ++ ys) ∙ ap is_some (first_behind (bytes_eq name) xs ys)

has_parts : (xs ys : List (List ℕ)) (name : List ℕ) → has_name (xs ++ ys) name ≡ false → (has_name xs name ≡ false) × (has_name ys name ≡ false)
has_parts xs ys name h =
    let p = some_else (first_by (bytes_eq name) xs) (first_by (bytes_eq name) ys) (sym (has_both xs ys name) ∙ h) in
    (place_some (bytes_eq name) xs ∙ p.0, place_some (bytes_eq name) ys ∙ p.1)

has_none : (xs ys : List (List ℕ)) (name : List ℕ) → has_name xs name ≡ false → has_name ys name ≡ false → has_name (xs ++ ys) name ≡ false
has_none xs ys name h k = has_both xs ys name ∙ none_else (first_by (bytes_eq name) xs) (first_by (bytes_eq name) ys) (sym (place_some (bytes_eq name) xs) ∙ h) (sym (place_some (bytes_eq name) ys) ∙ k)

names_both : (xs ys : List EventDecl) → names_of (xs ++ ys) ≡ names_of xs ++ names_of ys
names_both [] ys = refl
names_both (x ∷ xs) ys = ap (λ (l : List (List ℕ)). x.name.text ∷ l) (names_both xs ys)

-- a name that isn't gathered is none of these event types'
Covers : Gathered → List EventDecl → Type 0
Covers g ks = (name : List ℕ) → has_name g.names name ≡ false → has_name (names_of ks) name ≡ false

covers_event : (g : Gathered) (ks : List EventDecl) (e : EventDecl) → Covers g ks → Covers (with_event g e.name.text) (ks ++ e ∷ [])
unfolding Covers
covers_event g ks e c name h =
    let p = has_parts g.names (e.name.text ∷ []) name h in
    ap (λ (l : List (List ℕ)). has_name l name) (names_both ks (e ∷ [])) ∙ has_none (names_of ks) (e.name.text ∷ []) name (c name p.0) p.1

covers_monitor : (number_of : List ℕ → Option ℕ) (file : ℕ) (g : Gathered) (ks : List EventDecl) (m : MonitorDecl) → Covers g ks → Covers (with_monitor number_of file g m) ks
unfolding Covers
covers_monitor number_of file g ks m c name h = c name (has_parts g.names (m.name.text ∷ []) name h).0

new_kind : (ks : List EventDecl) (e : EventDecl) (b : Bool) → b ≡ false → (if b then ks else ks ++ e ∷ []) ≡ ks ++ e ∷ []
new_kind ks e true h = absurd (cc)
new_kind ks e false h = refl

module _ (kinds : List EventDecl) (table : Table) (numbered : numbers kinds ≡ event_of table) where
  -- ---- fields

  fields_are : (before fs : List FieldDecl) → fields_faults kinds before fs ≡ [] → FieldsAre table.types fs (map (field_shape (numbers kinds)) fs)
  fields_are before [] none = rule.no_fields
  fields_are before (f ∷ fs) none =
      let codes = cause (is_named f.name.text before) 1 ++ cause (holds kinds f.shape) 3 ++ cause (nat_le 64 (length before) || nat_lt 256 (count_of kinds (before ++ f ∷ []))) 4 in
      let one = no_both (field_faults kinds before f) (fields_faults kinds (before ++ f ∷ []) fs) none in
      let two = no_both (type_by (numbers kinds) f.shape).faults (told f.name.spot codes) one.0 in
      rule.a_field (record {
        name = refl;
        shape = subst (λ (n : List ℕ → Option ℕ). TypeIs table.types f.shape (type_by n f.shape).part) (sym numbered)
            ((type_sure table f.shape).where_clear (ap (λ (n : List ℕ → Option ℕ). (type_by n f.shape).faults) (sym numbered) ∙ two.0));
      }) (fields_are (before ++ f ∷ []) fs one.1)

  -- what holds behind event types that are read
  record Read (g : Gathered) (ks : List EventDecl) (es : List EventDecl) : Type 0 where
    covers : Covers g (ks ++ es)
    events : EventsAre table.types es (map (event_shape (numbers kinds)) es)

  both_events : (xs ys : List EventDecl) → EventsAre table.types xs (map (event_shape (numbers kinds)) xs) → EventsAre table.types ys (map (event_shape (numbers kinds)) ys) → EventsAre table.types (xs ++ ys) (map (event_shape (numbers kinds)) (xs ++ ys))
  both_events [] ys h k = k
  both_events (x ∷ xs) ys (rule.an_event n f h) k = rule.an_event n f (both_events xs ys h k)

  fresh : (g : Gathered) (e : EventDecl) → event_faults kinds g e ≡ [] → (has_name g.names e.name.text ≡ false) × (fields_faults kinds [] e.fields ≡ [])
  fresh g e none =
      let codes = cause (has_name g.names e.name.text) 1 ++ cause (nat_le 1000 g.events || contains_itself kinds e.name.text) 4 in
      let one = no_both (told e.name.spot codes) (fields_faults kinds [] e.fields) none in
      let two = no_both (cause (has_name g.names e.name.text) 1) (cause (nat_le 1000 g.events || contains_itself kinds e.name.text) 4) (no_told e.name.spot codes one.0) in
      (no_cause (has_name g.names e.name.text) 1 two.0, one.1)

  declarations_read : (file : ℕ) (g : Gathered) (ks : List EventDecl) (ds : List Declaration) → Covers g ks → faults_from kinds file g ds ≡ [] → (kinds_after ks ds ≡ ks ++ events_in ds) × Read (gathered_after kinds file g ds) ks (events_in ds)
  unfolding Covers
  declarations_read file g ks [] c none = (sym (append_none ks), record { covers = λ name h. ap (λ (l : List EventDecl). has_name (names_of l) name) (append_none ks) ∙ c name h; events = rule.no_events })
  declarations_read file g ks (declaration.Event e ∷ ds) c none =
      let split = no_both (declaration_faults kinds g (declaration.Event e)) (faults_from kinds file (with_event g e.name.text) ds) none in
      let new = fresh g e split.0 in
      let rest = declarations_read file (with_event g e.name.text) (ks ++ e ∷ []) ds (covers_event g ks e c) split.1 in
      let r = rest.1 in (
        ap (λ (l : List EventDecl). kinds_after l ds) (new_kind ks e (has_name (names_of ks) e.name.text) (c e.name.text new.0)) ∙ rest.0 ∙ regroup ks e (events_in ds),
        record {
          covers = λ name h. ap (λ (l : List EventDecl). has_name (names_of l) name) (sym (regroup ks e (events_in ds))) ∙ r.covers name h;
          events = rule.an_event refl (fields_are [] e.fields new.1) r.events;
        },
      )
  declarations_read file g ks (declaration.Monitor m ∷ ds) c none =
      let split = no_both (declaration_faults kinds g (declaration.Monitor m)) (faults_from kinds file (with_monitor (numbers kinds) file g m) ds) none in
      let rest = declarations_read file (with_monitor (numbers kinds) file g m) ks ds (covers_monitor (numbers kinds) file g ks m c) split.1 in
      let r = rest.1 in
      (rest.0, record { covers = r.covers; events = r.events })

  kinds_both : (ks : List EventDecl) (xs ys : List Declaration) → kinds_after ks (xs ++ ys) ≡ kinds_after (kinds_after ks xs) ys
  kinds_both ks [] ys = refl
  kinds_both ks (d ∷ xs) ys = kinds_both (kind_step ks d) xs ys

  events_both : (xs ys : List Declaration) → events_in (xs ++ ys) ≡ events_in xs ++ events_in ys
  events_both [] ys = refl
  events_both (declaration.Event e ∷ xs) ys = ap (λ (l : List EventDecl). e ∷ l) (events_both xs ys)
  events_both (declaration.Monitor m ∷ xs) ys = events_both xs ys

  files_read : (file : ℕ) (g : Gathered) (ks : List EventDecl) (units : List File) → Covers g ks → units_faults kinds file g units ≡ [] → (kinds_after ks (declarations_of units) ≡ ks ++ events_in (declarations_in units)) × EventsAre table.types (events_in (declarations_in units)) (map (event_shape (numbers kinds)) (events_in (declarations_in units)))
  files_read file g ks [] c none = (sym (append_none ks), rule.no_events)
  files_read file g ks (u ∷ units) c none =
      let split = no_both (map (in_file file) (faults_from kinds file g u.declarations)) (units_faults kinds (file + 1) (gathered_after kinds file g u.declarations) units) none in
      let one = declarations_read file g ks u.declarations c (no_map (in_file file) (faults_from kinds file g u.declarations) split.0) in
      let r = one.1 in
      let rest = files_read (file + 1) (gathered_after kinds file g u.declarations) (ks ++ events_in u.declarations) units r.covers split.1 in
      let events = events_both u.declarations (declarations_in units) in (
        kinds_both ks u.declarations (declarations_of units) ∙ ap (λ (l : List EventDecl). kinds_after l (declarations_of units)) one.0 ∙ rest.0
            ∙ append_assoc ks (events_in u.declarations) (events_in (declarations_in units)) ∙ ap (λ (l : List EventDecl). ks ++ l) (sym events),
        subst (λ (l : List EventDecl). EventsAre table.types l (map (event_shape (numbers kinds)) l)) (sym events) (both_events (events_in u.declarations) (events_in (declarations_in units)) r.events rest.1),
      )

-- the program of files in which no fault is found
pub program_resolves : (units : List File) (program : Program) → IsProgram units program → Resolves units program
unfolding Covers
program_resolves units program is =
    let kinds = kinds_of units in
    let table = is.table in
    let read = files_read kinds table (same_numbers units table is.is_table) 0 none_gathered [] units (λ name h. refl) is.declared in
    let types : table.types ≡ program.types = sym (ap (λ (p : Program). p.types) is.program_is) in
    let shapes : map (event_shape (numbers kinds)) (events_in (declarations_in units)) ≡ program.types = ap (λ (l : List EventDecl). map (event_shape (numbers kinds)) l) (sym read.0) ∙ sym is.is_table.types ∙ types in
    let monitors = program_monitors units program is in
    record {
      types = subst (λ (ts : List EventShape). EventsAre ts (events_in (declarations_in units)) program.types) types (subst (λ (ss : List EventShape). EventsAre table.types (events_in (declarations_in units)) ss) shapes read.1);
      monitors = monitors.0;
      no_more = monitors.1;
    }

-- an answer of the checker
pub accepted_resolves : (units : List File) (r : Result Program CheckFault) → Checks r units → IfOk r (Resolves units)
accepted_resolves units (Ok program) is = program_resolves units program is
accepted_resolves units (Err fault) is = record {}
