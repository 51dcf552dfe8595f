-- Literals of dictionaries answer, where their entries do.
use Rattle.std.proofs.Common.{◌≡◌, ◌&&◌, ◌∷◌, ◌++◌}
use Rattle.program_laws.proofs.Common.{true, List, [], map, Option, Some, None, refl, sym, ap, subst, ◌∙◌, true≢false, list_all, AllByRecursion, and_parts, and_from, Spot, Shape, Shape-F, out-Shape, TypedEntry, roll-TypedEntry, same, Names, Paired, checked, shape_of, is_of, Judged, EntryList, Demand, Value, Exactly, Key, Pair, entry_found, no_entries, dictionary_given, dictionary_items, dictionary_found, Part, wish_stands, wished}
use Rattle.epl_values.specs.declared.shape.Shape.TheVariants as shape
use Rattle.epl_values.specs.declared.shape.Shape.TheOpen as layer
use Rattle.typed_program.specs.declared.expression.TypedNode.TheVariants as made
use Rattle.typed_program.specs.declared.expression.TypedNode.TheOpen as typed
use Rattle.typed_program.specs.Shapes.{is_scalar, is_dictionary, is_dictionary_layer}
use Rattle.typed_program.specs.Expressions.{dictionary_so}
use Rattle.expr_rules.specs.declared.placed.Gives.TheVariants as gives
use Rattle.expr_rules.specs.Asked.{plain}
use Rattle.expr_rules.specs.Literals.{entry_of, value_found, dictionary_of}
use Rattle.expr_rules.specs.Then.{and_then, through}
use Rattle.program_laws.proofs.Exprs.Sure.{Sure, sure_then, sure_sound, sure_through}
use Rattle.program_laws.proofs.Exprs.Alike.{same_is}
use Rattle.program_laws.proofs.Exprs.Standing.{KeyStands, dictionary_stands}
use Rattle.program_laws.proofs.Exprs.Holding.{node_checked, rolled, is_of_known, entry_checked, entry_made}
use Rattle.program_laws.proofs.Exprs.Answering.{Answering, Answers, stands_sure, value_shape, shape_stands, exact_is_of}
use Rattle.program_laws.proofs.Exprs.Chains.{all_push}
use Rattle.program_laws.proofs.Exprs.Literals.{empty_sure}

any_key : (o : Option Shape) → wished (Key None) o ≡ true → (s : Shape) × (o ≡ Some s) × (is_scalar s ≡ true)
any_key None h = absurd (true≢false (sym h))
any_key (Some s) h = (s, refl, h)

that_key : (k : Shape) (o : Option Shape) → wished (Key (Some k)) o ≡ true → o ≡ Some k
that_key k None h = absurd (true≢false (sym h))
that_key k (Some t) h = ap Some (sym (same_is k t (and_parts (same k t) (is_scalar t) h).0))

-- a key and a value that answer
pub record PairAnswers (names : Names) (pair : Pair) : Type 0 where
  pub key_answers : Answers names pair.key
  pub value_answers : Answers names pair.value

module _ (names : Names) where
  -- what is made so far: keys of one scalar shape with values of one shape, or none
  abbrev LikeShapes : Option Shape → Option Shape → List TypedEntry → Type 0
  LikeShapes None None entries = entries ≡ []
  LikeShapes None (Some v) entries = ⊥
  LikeShapes (Some k) None entries = ⊥
  LikeShapes (Some k) (Some v) entries = KeyStands names.types k v × (list_all (λ p. is_of k p.key && is_of v p.value) (map (entry_checked names) entries) ≡ true)

  abbrev Alike : EntryList → Type 0
  Alike entries = LikeShapes entries.key entries.value entries.entries

  abbrev entry : Judged → Judged → TypedEntry
  entry key value = roll-TypedEntry record { key = key.typed; value = value.typed }

  entry_is_of : (k v : Shape) (key value : Judged) → is_of k (checked names key.typed) ≡ true → is_of v (checked names value.typed) ≡ true → (is_of k (entry_checked names (entry key value)).key && is_of v (entry_checked names (entry key value)).value) ≡ true
  entry_is_of k v key value h l = ap (λ (p : Paired). is_of k p.key && is_of v p.value) (entry_made names key.typed value.typed) ∙ and_from (is_of k (checked names key.typed)) (is_of v (checked names value.typed)) h l

  first_alike : (entries : List TypedEntry) (key value : Judged) → entries ≡ [] → Answering names (Key None) key → Answering names Value value → LikeShapes (shape_of key.typed) (shape_of value.typed) (entries ++ entry key value ∷ [])
  first_alike entries key value none a b =
      let k = any_key (shape_of key.typed) a.fit in
      let v = value_shape names value b in
      subst (λ (o : Option Shape). LikeShapes o (shape_of value.typed) (entries ++ entry key value ∷ [])) (sym k.1)
      (subst (λ (o : Option Shape). LikeShapes (Some k.0) o (entries ++ entry key value ∷ [])) (sym v.1) (
        record { scalar = k.2; key_stands = shape_stands names (Key None) key k.0 a k.1; value_stands = shape_stands names Value value v.0 b v.1 },
        all_push (λ p. is_of k.0 p.key && is_of v.0 p.value) (entry_checked names) entries (entry key value)
            (ap (λ (l : List TypedEntry). list_all (λ p. is_of k.0 p.key && is_of v.0 p.value) (map (entry_checked names) l)) none)
            (entry_is_of k.0 v.0 key value (is_of_known names k.0 key.typed a.whole k.1) (is_of_known names v.0 value.typed b.whole v.1)),
      ))

  value_first : (entries : List TypedEntry) (part : Part) (key : Judged) → entries ≡ [] → Answers names part → Answering names (Key None) key → Sure Alike (value_found (record { key = None; value = None; entries = entries }) part key)
  unfolding value_found entry_of
  value_first (x ∷ entries) part key none p a = absurd (cc)
  value_first [] part key none p a =
      sure_then (Answering names Value) Alike (part (plain Value)) (entry_of (record { key = None; value = None; entries = [] }) key) (p.at_demand (plain Value) refl)
      (λ j b. sure_sound Alike (record { key = shape_of key.typed; value = shape_of j.typed; entries = [] ++ entry key j ∷ [] }) (first_alike [] key j none a b))

  value_next : (k v : Shape) (entries : List TypedEntry) (part : Part) (key : Judged) → LikeShapes (Some k) (Some v) entries → Answers names part → Answering names (Key (Some k)) key → Sure Alike (value_found (record { key = Some k; value = Some v; entries = entries }) part key)
  unfolding value_found entry_of
  value_next k v entries part key i p a =
      sure_then (Answering names (Exactly v)) Alike (part (plain (Exactly v))) (entry_of (record { key = Some k; value = Some v; entries = entries }) key) (p.at_demand (plain (Exactly v)) i.0.value_stands)
      (λ j b. sure_sound Alike (record { key = Some k; value = Some v; entries = entries ++ entry key j ∷ [] })
      (i.0, all_push (λ p. is_of k p.key && is_of v p.value) (entry_checked names) entries (entry key j) i.1 (entry_is_of k v key j (is_of_known names k key.typed a.whole (that_key k (shape_of key.typed) a.fit)) (exact_is_of names v j b))))

  entry_at : (key value : Option Shape) (entries : List TypedEntry) (pair : Pair) → LikeShapes key value entries → PairAnswers names pair → Sure Alike (and_then (pair.key (plain (Key key))) (value_found (record { key = key; value = value; entries = entries }) pair.value))
  entry_at None None entries pair i p = sure_then (Answering names (Key None)) Alike (pair.key (plain (Key None))) (value_found (record { key = None; value = None; entries = entries }) pair.value) (p.key_answers.at_demand (plain (Key None)) refl) (λ j a. value_first entries pair.value j i p.value_answers a)
  entry_at None (Some v) entries pair i p = absurd i
  entry_at (Some k) None entries pair i p = absurd i
  entry_at (Some k) (Some v) entries pair i p = sure_then (Answering names (Key (Some k))) Alike (pair.key (plain (Key (Some k)))) (value_found (record { key = Some k; value = Some v; entries = entries }) pair.value) (p.key_answers.at_demand (plain (Key (Some k))) (and_from _ _ i.0.key_stands i.0.scalar)) (λ j a. value_next k v entries pair.value j i p.value_answers a)

  dictionary_layer_holds : (d : Shape-F Shape) → is_dictionary_layer d ≡ true → dictionary_so [] d ≡ true
  dictionary_layer_holds (layer.Dictionary key value) h = refl
  dictionary_layer_holds d h = absurd (true≢false (sym h))

  empty_dictionary_holds : (s : Shape) → is_dictionary s ≡ true → node_checked names (made.Dictionary []) (Some s) ≡ true
  unfolding is_dictionary
  empty_dictionary_holds s h = rolled names (typed.Dictionary []) (made.Dictionary []) (Some s) (made.rolls-Dictionary []) (dictionary_layer_holds (out-Shape s) h)

  dictionary_holds : (entries : List TypedEntry) (k v : Shape) → list_all (λ p. is_of k p.key && is_of v p.value) (map (entry_checked names) entries) ≡ true → node_checked names (made.Dictionary entries) (Some (shape.Dictionary k v)) ≡ true
  dictionary_holds entries k v h = rolled names (typed.Dictionary entries) (made.Dictionary entries) (Some (shape.Dictionary k v)) (made.rolls-Dictionary entries) (ap (λ (d : Shape-F Shape). dictionary_so (map (entry_checked names) entries) d) (shape.outs-Dictionary k v) ∙ h)

  dictionary_at : (spot : Spot) (demand : Demand) (entries : List TypedEntry) (key value : Option Shape) → wish_stands names.types demand.wish ≡ true → LikeShapes key value entries → Sure (Answering names demand.wish) (dictionary_items entries (dictionary_given key value) spot demand)
  dictionary_at spot demand [] key value stands i = empty_sure names spot demand is_dictionary (made.Dictionary []) stands empty_dictionary_holds
  dictionary_at spot demand (x ∷ entries) None None stands i = absurd (cc)
  dictionary_at spot demand (x ∷ entries) None (Some v) stands i = absurd i
  dictionary_at spot demand (x ∷ entries) (Some k) None stands i = absurd i
  dictionary_at spot demand (x ∷ entries) (Some k) (Some v) stands i = stands_sure names spot demand None None (gives.Value (shape.Dictionary k v)) (made.Dictionary (x ∷ entries)) (λ none. record { there = dictionary_stands names.types k v i.0.scalar i.0.key_stands i.0.value_stands; node_holds = dictionary_holds (x ∷ entries) k v i.1 })

  dictionary_sure : (spot : Spot) (demand : Demand) → wish_stands names.types demand.wish ≡ true → (entries : EntryList) → Alike entries → Sure (Answering names demand.wish) (dictionary_of spot demand entries)
  unfolding dictionary_of
  dictionary_sure spot demand stands entries i = dictionary_at spot demand entries.entries entries.key entries.value stands i

  pub dictionary_answers : (pairs : List Pair) (spot : Spot) → AllByRecursion (PairAnswers names) pairs → Answers names (dictionary_found pairs spot)
  dictionary_answers pairs spot all = record {
    at_demand = λ demand stands.
        sure_then Alike (Answering names demand.wish) (through entry_found no_entries pairs) (dictionary_of spot demand)
        (sure_through (PairAnswers names) Alike entry_found (λ c b i p. entry_at c.key c.value c.entries b i p) no_entries pairs all refl)
        (dictionary_sure spot demand stands);
  }
