-- What is read in the tables of the event types.
use Rattle.std.proofs.Common.{◌≡◌, ℕ, Bool, true, false, List, Option, map, length, refl, ap, ap₂, sym, ◌∙◌}
use Rattle.std.specs.Prelude.{◌||◌, min}
use Rattle.std.specs.Str.{bytes_eq}
use Rattle.epl_tree.specs.declared.unit.EventDecl.{EventDecl}
use Rattle.epl_tree.specs.declared.types.TypeExpr.{TypeExpr}
use Rattle.type_table.specs.declared.depths.Depths.{Depths}
use Rattle.type_table.specs.Names.{number_in}
use Rattle.type_table.specs.Kinds.{names_of}
use Rattle.type_table.specs.Chains.{met, leads, width, field_count, at_number, turns, leads_on, wider, aim_of, holds, contains_itself, whole_width}
use Rattle.type_table.specs.Depths.{AreDepths}
use Rattle.type_table.proofs.Turned.{leads_turned, width_turned}

module _ (kinds : List EventDecl) (names : List (List ℕ)) (named : names ≡ names_of kinds) where
  pub holds_read : (depths : Depths) (target : List ℕ) (table : List Bool) (t : TypeExpr) → table ≡ depths.holding.items → AreDepths kinds depths → met true (λ n. aim_of false target n || at_number false table (number_in names n)) t ≡ holds kinds t
  holds_read depths target table t seen are =
      let read : (λ (n : List ℕ). at_number false table (number_in names n)) ≡ leads kinds false true (λ name. false) (length kinds) =
      (λ i n. (ap₂ (λ t ns. at_number false t (number_in ns n)) (seen ∙ are.holding) named ∙ leads_turned kinds false true (λ name. false) (length kinds) n) i) in
      ap (λ event. met true event t) read

  pub count_read : (depths : Depths) (table : List ℕ) (t : TypeExpr) → table ≡ depths.widths.items → AreDepths kinds depths → min 257 (field_count (λ n. at_number 0 table (number_in names n)) t) ≡ min 257 (field_count (whole_width kinds) t)
  count_read depths table t seen are =
      let read : (λ (n : List ℕ). at_number 0 table (number_in names n)) ≡ width kinds (length kinds) =
      (λ i n. (ap₂ (λ t ns. at_number 0 t (number_in ns n)) (seen ∙ are.widths) named ∙ width_turned kinds (length kinds) n) i) in
      ap (λ w. min 257 (field_count w t)) read

  pub itself_read : (name : List ℕ) (table shown : List Bool) (number : Option ℕ) → shown ≡ table → number ≡ number_in names name → table ≡ turns (length kinds) (leads_on kinds false (aim_of true name)) (map (λ (e : EventDecl). false) kinds) → at_number false shown number ≡ contains_itself kinds name
  itself_read name table shown number seen numbered is = ap₂ (at_number false) (seen ∙ is) (numbered ∙ ap (λ ns. number_in ns name) named) ∙ leads_turned kinds false false (bytes_eq name) (length kinds) name
