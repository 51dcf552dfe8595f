-- What a path from a name reads.
use Rattle.std.proofs.Common.{arith, ◌≡◌, ◌<◌, ℕ, zero, suc, List, [], ◌∷◌, drop, length, slice_index_or, Some, None, slice_get, refl, ap, ◌∙◌}
use Rattle.epl_values.specs.declared.value.Value.{Value}
use Rattle.typed_program.specs.declared.program.Local.{Local}
use Rattle.term_meaning.specs.declared.leaf.Computed.TheVariants.{Missing}
use Rattle.term_meaning.specs.declared.stimulus.Binding.{Binding}
use Rattle.term_meaning.specs.Operands.{Setting, along, at_path, computed, event_of, field_of}
use Rattle.value_rules.specs.Defaults.{default_of}

-- no field reaches anything from nothing
pub along_none : (fields : List ℕ) → along fields None ≡ None
along_none [] = refl
along_none (field ∷ fields) = along_none fields

module _ (s : Setting) (seen : List Binding) (name : ℕ) (fields : List ℕ) where
  -- a path from a bound event
  pub from_event : (e : Value) → event_of name seen ≡ Some e → at_path s seen name fields ≡ computed (along fields (Some e))
  from_event e is = rw is refl

  -- a path from a name that isn't bound
  pub from_default : (local : Local) → event_of name seen ≡ None → slice_get s.site.bound name ≡ Some local → at_path s seen name fields ≡ computed (along fields (Some (default_of s.types local.shape)))
  from_default local is there = rw (is, there) refl

  pub from_none : event_of name seen ≡ None → slice_get s.site.bound name ≡ None → at_path s seen name fields ≡ Missing
  from_none is there = rw (is, there, along_none fields) refl

-- nothing is reached where a field isn't there
pub along_stops : (fields : List ℕ) (i : ℕ) (at : Value) → i < length fields → field_of (slice_index_or fields i 0) at ≡ None → along (drop i fields) (Some at) ≡ None
along_stops [] i at within none = absurd (omega arith)
along_stops (field ∷ fields) zero at within none = ap (along fields) none ∙ along_none fields
along_stops (field ∷ fields) (suc i) at within none = along_stops fields i at (omega arith) none
