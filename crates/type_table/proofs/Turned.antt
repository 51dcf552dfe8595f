-- A table that is stepped as often as there are event types says what chains of that many show.
use Rattle.std.proofs.Common.{◌≡◌, ℕ, zero, suc, ◌+◌, ◌-◌, ◌<◌, arith, Bool, true, false, List, [], ◌∷◌, ◌++◌, Option, Some, None, map, length, get_or, refl, ap, sym, ◌∙◌}
use Rattle.std.specs.Prelude.{◌||◌, min, slice_get, slice_index_or}
use Rattle.std.specs.List.{sum_by}
use Rattle.epl_tree.specs.declared.unit.EventDecl.{EventDecl}
use Rattle.epl_tree.specs.declared.types.TypeExpr.{TypeExpr}
use Rattle.type_table.specs.Names.{number_in}
use denote.Ref.{Bor}
use Rattle.type_table.specs.Kinds.{names_of, trees, found_at, event_named}
use Rattle.type_table.specs.Chains.{met, at_event, any_field, leads, field_count, width, at_number, turns, begins, fields_by, leads_on, wider}

pub turns_stable : {A : Type 0} (n : ℕ) (step : A → A) (x : A) → step x ≡ x → turns n step x ≡ x
turns_stable zero step x same = refl
turns_stable (suc n) step x same = ap (turns n step) same ∙ turns_stable n step x same

-- a step that changes nothing ends the turns
pub turns_done : {A : Type 0} (n : ℕ) (step : A → A) (x y : A) → y ≡ step x → y ≡ x → turns n step x ≡ y
turns_done n step x y made same = turns_stable n step x (sym made ∙ same) ∙ sym same

pub turns_more : {A : Type 0} (count turn : ℕ) (step : A → A) (x : A) → turn < count → turns (count - turn) step x ≡ turns (count - (turn + 1)) step (step x)
turns_more count turn step x h = let e : count - turn ≡ suc (count - (turn + 1)) = omega arith in ap (λ n. turns n step x) e

turns_last : {A : Type 0} (n : ℕ) (step : A → A) (x : A) → turns n step (step x) ≡ step (turns n step x)
turns_last zero step x = refl
turns_last (suc n) step x = turns_last n step (step x)

pub length_trees : (rs : List (Bor EventDecl)) → length (trees rs) ≡ length rs
length_trees [] = refl
length_trees (r ∷ rs) = ap suc (length_trees rs)

at_map : {A : Type 0} (other : A) (f : EventDecl → A) (kinds : List EventDecl) (n : ℕ) → get_or (map f kinds) n other ≡ at_event other f (slice_get kinds n)
at_map other f [] n = refl
at_map other f (e ∷ es) zero = refl
at_map other f (e ∷ es) (suc n) = at_map other f es n

pub number_map : {A : Type 0} (other : A) (f : EventDecl → A) (kinds : List EventDecl) (o : Option ℕ) → at_number other (map f kinds) o ≡ at_event other f (found_at kinds o)
number_map other f kinds None = refl
number_map other f kinds (Some n) = at_map other f kinds n

module _ (kinds : List EventDecl) where
  module _ (start : Bool) (link : Bool) (aim : List ℕ → Bool) where
    pub leads_turned : (n : ℕ) (name : List ℕ) → at_number false (turns n (leads_on kinds link aim) (map (λ (e : EventDecl). start) kinds)) (number_in (names_of kinds) name) ≡ leads kinds start link aim n name
    unfolding leads begins
    leads_turned zero name = number_map false (λ (e : EventDecl). start) kinds (number_in (names_of kinds) name)
    leads_turned (suc n) name =
        let table : List Bool = turns n (leads_on kinds link aim) (map (λ (e : EventDecl). start) kinds) in
        let known : (λ (m : List ℕ). aim m || at_number false table (number_in (names_of kinds) m)) ≡ (λ (m : List ℕ). aim m || leads kinds start link aim n m) = (λ i m. aim m || leads_turned n m i) in
        ap (λ (t : List Bool). at_number false t (number_in (names_of kinds) name)) (turns_last n (leads_on kinds link aim) (map (λ (e : EventDecl). start) kinds))
        ∙ number_map false (any_field (met link (λ m. aim m || at_number false table (number_in (names_of kinds) m)))) kinds (number_in (names_of kinds) name)
        ∙ ap (λ (event : List ℕ → Bool). at_event false (any_field (met link event)) (event_named kinds name)) known

  pub width_turned : (n : ℕ) (name : List ℕ) → at_number 0 (turns n (wider kinds) (map (λ (e : EventDecl). 257) kinds)) (number_in (names_of kinds) name) ≡ width kinds n name
  unfolding width fields_by
  width_turned zero name = number_map 0 (λ (e : EventDecl). 257) kinds (number_in (names_of kinds) name)
  width_turned (suc n) name =
      let table : List ℕ = turns n (wider kinds) (map (λ (e : EventDecl). 257) kinds) in
      let known : (λ (m : List ℕ). at_number 0 table (number_in (names_of kinds) m)) ≡ width kinds n = (λ i m. width_turned n m i) in
      ap (λ (t : List ℕ). at_number 0 t (number_in (names_of kinds) name)) (turns_last n (wider kinds) (map (λ (e : EventDecl). 257) kinds))
      ∙ number_map 0 (λ (e : EventDecl). min 257 (sum_by (λ f. field_count (λ m. at_number 0 table (number_in (names_of kinds) m)) f.shape) e.fields)) kinds (number_in (names_of kinds) name)
      ∙ ap (λ (w : List ℕ → ℕ). at_event 0 (λ (e : EventDecl). min 257 (sum_by (λ f. field_count w f.shape) e.fields)) (event_named kinds name)) known
