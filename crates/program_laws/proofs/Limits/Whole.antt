-- The program of files in which no fault is found has event types of different names, none of which contains itself, and
-- keeps the limits.
use Rattle.std.proofs.Common.{◌≡◌, ◌+◌, ◌≤◌}
use Rattle.program_laws.proofs.Common.{ℕ, length, map, List, Some, true, ap, sym, subst, ◌∙◌, slice_get, arith, option_map, list_all, length-map, slice_get-map, le-leb, EventShape, EventDecl, HasNoCycle, Program, are_narrow, event_shape, numbers, kinds_of, names_of, IsProgram, made_of}
use Rattle.epl_tree.specs.declared.unit.Unit.{Unit as File}
use Rattle.typed_program.specs.Limits.{has_few_params, within_limits}
use Rattle.event_types.specs.Types.{HasDistinctNames}
use Rattle.type_table.proofs.Filed.{shapes_named}
use Rattle.program_laws.proofs.Limits.Cycles.{none_contains}
use Rattle.program_laws.proofs.Limits.Kinds.{kinds_fine}
use Rattle.program_laws.proofs.Limits.Members.{FilesFew, files_few}
use Rattle.program_laws.proofs.Limits.Names.{kinds_differ}
use Rattle.program_laws.proofs.Limits.Widths.{types_narrow}
use Rattle.program_laws.proofs.Shapes.Kinds.{KindsHold, kinds_hold}
use Rattle.program_laws.proofs.Shapes.Lists.{both_true, every_true, all_of_same}

module _ (units : List File) (program : Program) (is : IsProgram units program) where
  abbrev kinds : List EventDecl
  kinds = kinds_of units

  abbrev shapes : List EventShape
  shapes = map (event_shape (numbers kinds)) kinds

  types_are : program.types ≡ shapes
  types_are = ap (λ (p : Program). p.types) is.program_is ∙ is.is_table.types

  kinds_few : length kinds ≤ 1000
  kinds_few =
      let hold : KindsHold program = kinds_hold units program types_are is.declared in
      let few = hold.few in
      let long = ap length types_are in
      let same = length-map kinds (event_shape (numbers kinds)) in
      omega (arith, few, long, same)

  name_at : (types : List EventShape) → map (λ (t : EventShape). t.name) types ≡ names_of kinds → (n : ℕ) (x : EventShape) → slice_get types n ≡ Some x → slice_get (names_of kinds) n ≡ Some x.name
  name_at types named n x at =
      ap (λ (ns : List (List ℕ)). slice_get ns n) (sym named)
      ∙ slice_get-map (λ (t : EventShape). t.name) types n
      ∙ ap (option_map (λ (t : EventShape). t.name)) at

  named : map (λ (t : EventShape). t.name) program.types ≡ names_of kinds
  named = ap (map (λ (t : EventShape). t.name)) types_are ∙ shapes_named (numbers kinds) kinds

  -- no two event types have one name
  pub names_differ : HasDistinctNames program.types
  names_differ i j a b at other same = kinds_differ units i j a.name b.name (name_at program.types named i a at) (name_at program.types named j b other) same

  -- no event type contains itself
  pub no_cycle : HasNoCycle program.types
  no_cycle = subst HasNoCycle (sym types_are) (none_contains kinds (kinds_differ units) (let few = kinds_few in omega arith) (kinds_fine units is.declared))

  narrow : are_narrow program.types 0 program.types ≡ true
  narrow = subst (λ (types : List EventShape). are_narrow types 0 types ≡ true) (sym types_are) (types_narrow kinds (let few = kinds_few in omega arith) (kinds_fine units is.declared))

  -- the limits hold
  pub limits_hold : within_limits program ≡ true
  limits_hold =
      let hold : KindsHold program = kinds_hold units program types_are is.declared in
      let all : FilesFew is.table kinds (made_of is.table units) = files_few is.table kinds units is.declared is.faultless in
      let monitors : length program.monitors ≡ length (made_of is.table units).monitors = ap (λ (p : Program). length p.monitors) is.program_is in
      let actions : program.actions ≡ (made_of is.table units).actions = ap (λ (p : Program). p.actions) is.program_is in
      let sites : program.sites ≡ (made_of is.table units).sites = ap (λ (p : Program). p.sites) is.program_is in
      let few = all.monitors in
      let bodies = all.bodies in
      let actions_long = ap length actions in
      let sites_long = ap length sites in
      both_true (both_true (both_true (both_true
      (le-leb (length program.types) 1000 hold.few)
      (le-leb (length program.monitors) 1001 (omega (arith, monitors, few))))
      narrow)
      (ap (list_all has_few_params) actions ∙ every_true has_few_params (made_of is.table units).actions (all_of_same (made_of is.table units).actions (λ a h. le-leb (length a.params) 64 h) all.params)))
      (le-leb (length program.actions + length program.sites) 65535 (omega (arith, actions_long, sites_long, bodies)))
