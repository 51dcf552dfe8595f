-- Keys that are over stay over.
use Rattle.std.proofs.Common.{◌≡◌, ℕ, zero, suc, ◌<◌, Bool, true, false, List, [], ◌∷◌, length, Option, Some, None, sym, ap, subst, ◌∙◌, arith, inl, inr, ◌⊎◌}
use Rattle.std.proofs.lemmas.Bool.Decides.{eqb_tells}
use Rattle.std.proofs.lemmas.List.{get_or-set_other, get_or-set_same}
use Rattle.std.specs.List.{AllByRecursion}
use Rattle.std.specs.Prelude.{◌≢◌, ◌==◌, is_some, IsSome, slice_index_or, slice_set, if◌then◌else◌}
use Rattle.slot_arena.specs.declared.key.Key.{Key}
use Rattle.slot_arena.specs.Arena.{Arena, Returns, Takes, found, of_generation}
use Rattle.slot_arena.specs.Course.{IsOver, Leads, Steps, with_value}

module _ {T : Type 0} where
  -- a slot that holds a value stands in the list
  within : (generation slot : ℕ) (held : List (Option (ℕ × T))) → is_some (of_generation generation (slice_index_or held slot None)) ≡ true → slot < length held
  within generation slot [] is = absurd (cc)
  within generation zero (e ∷ held) is = omega arith
  within generation (suc slot) (e ∷ held) is = let h : slot < length held = within generation slot held is in omega (arith, h)

  -- a key that is over isn't one that names a value
  differs : (key other : Key) (a : Arena T) → IsOver key a → IsSome (found a other) → key ≢ other
  differs key other a over held e = let none : is_some (found a key) ≡ true = ap (λ k. is_some (found a k)) e ∙ held in let gone : is_some (found a key) ≡ false = ap is_some over.gone in cc

  taken : (key other : Key) (old new : Arena T) (value : T) → IsOver key old → Takes old new other value → IsOver key new
  taken key other old new value over takes =
      let more = takes.taken in
      let past = over.past in
      record {
        past = omega (arith, more, past);
        gone = takes.others key (λ e. let later = takes.generation in let same : key.generation ≡ other.generation = ap (λ (k : Key). k.generation) e in omega (arith, later, same, past)) ∙ over.gone;
      }

  returned : (key other : Key) (old new : Arena T) → IsOver key old → IsSome (found old other) → Returns old new other → IsOver key new
  returned key other old new over held returns =
      let same = returns.taken in
      let past = over.past in
      record { past = omega (arith, same, past); gone = returns.others key (differs key other old over held) ∙ over.gone }

  changed : (key other : Key) (old : Arena T) (value : T) → IsOver key old → IsSome (found old other) → IsOver key (with_value old other value)
  changed key other old value over held = record { past = over.past; gone = go (eqb_tells key.slot other.slot) }
    where
      put : Option (ℕ × T)
      put = Some (other.generation, value)

      here : key.slot ≡ other.slot → (((other.generation == key.generation) ≡ true) × (other.generation ≡ key.generation)) ⊎ (((other.generation == key.generation) ≡ false) × (other.generation ≢ key.generation))
          → of_generation key.generation put ≡ None
      here slot (inl same) =
          let e : found old other ≡ found old key = ap (λ g. of_generation g (slice_index_or old.held other.slot None)) same.1 ∙ ap (λ s. of_generation key.generation (slice_index_or old.held s None)) (sym slot) in
          let some : is_some (found old key) ≡ true = ap is_some (sym e) ∙ held in
          let none : is_some (found old key) ≡ false = ap is_some over.gone in
          cc
      here slot (inr differ) = ap (λ (b : Bool). if b then Some value else None) differ.0

      go : (((key.slot == other.slot) ≡ true) × (key.slot ≡ other.slot)) ⊎ (((key.slot == other.slot) ≡ false) × (key.slot ≢ other.slot)) → found (with_value old other value) key ≡ None
      go (inl same) =
          ap (λ s. of_generation key.generation (slice_index_or (slice_set old.held other.slot put) s None)) same.1
          ∙ ap (of_generation key.generation) (get_or-set_same old.held other.slot put None (within other.generation other.slot old.held held))
          ∙ here same.1 (eqb_tells other.generation key.generation)
      go (inr differ) = ap (of_generation key.generation) (get_or-set_other old.held other.slot key.slot put None differ.1) ∙ over.gone

  step : (key : Key) (old new : Arena T) → IsOver key old → Steps old new → IsOver key new
  step key old new over (inl s) = taken key s.0 old new s.1 over s.2
  step key old new over (inr (inl s)) = returned key s.0 old new over s.1 s.2
  step key old new over (inr (inr s)) = subst (IsOver key) (sym s.3) (changed key s.0 old s.1 over s.2)

  pub stays_over : (key : Key) (first : Arena T) (later : List (Arena T)) → IsOver key first → Leads first later → AllByRecursion (IsOver key) later
  stays_over key first [] over leads = tt
  stays_over key first (next ∷ later) over leads = let now = step key first next over leads.0 in (now, stays_over key next later now leads.1)
