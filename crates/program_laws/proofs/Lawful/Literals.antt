-- Literals keep the rules, where their elements and entries do.
use Rattle.std.proofs.Common.{◌≡◌, ◌&&◌, ◌∷◌, ◌++◌}
use Rattle.program_laws.proofs.Common.{ℕ, ℤ, pos, Bool, true, List, [], map, Option, Some, None, refl, ap, ◌∙◌, list_all, AllByRecursion, and_from, Spot, Shape, TypeExpr, TypedEntry, roll-TypedEntry, TypedExpr, roll-TypedExpr, TypedNode, Sight, value, path_of, Table, type_found, Elements, EntryList, Gives, Judged, Demand, Wish, Pair, literal_stands, integer_stands, integer_found, integer_value, greatest, fixed, empty_code, empty_stands, text_stands, boolean_stands, current_stands, element_found, no_elements, sequence_items, sequence_given, sequence_found, known_first, entry_found, key_wish, no_entries, dictionary_given, dictionary_items, dictionary_found, element_wish, value_wish, Part, shape_of_expr}
use Rattle.epl_values.specs.declared.shape.Shape.TheVariants as shape
use Rattle.typed_program.specs.declared.expression.TypedNode.TheVariants as made
use Rattle.typed_program.specs.declared.expression.TypedNode.TheOpen as typed
use Rattle.typed_program.specs.Paths.{Pair as PathPair, plain}
use Rattle.expr_rules.specs.declared.placed.Gives.TheVariants as gives
use Rattle.expr_rules.specs.Asked.{plain as plainly}
use Rattle.expr_rules.specs.Literals.{literal, number_of, within, new_stands, element_of, sequence_of, entry_of, value_found, dictionary_of}
use Rattle.expr_rules.specs.Places.{placed}
use Rattle.typed_program.specs.Shapes.{is_sequence, is_dictionary}
use Rattle.expr_rules.specs.Then.{and_then, through}
use Rattle.program_laws.proofs.Exprs.Sure.{Sure, sure_then, sure_sound, sure_through, sure_any}
use Rattle.program_laws.proofs.Exprs.Chains.{all_push}
use Rattle.program_laws.proofs.Lawful.Paths.{node_pathed, pathed, entry_pathed, entry_made, node_of_made}
use Rattle.program_laws.proofs.Lawful.Standing.{Standing, Placed, permits, placed_kept, valued, made_keeps, value_kept}
use Rattle.program_laws.proofs.Lawful.Operands.{PartKept}

module _ (sight : Sight) where
  -- ---- literals of one token

  integer_path : (n : ℤ) (s : Option Shape) → node_pathed sight (made.Integer n) s ≡ value s true
  integer_path n s = pathed sight (typed.Integer n) (made.Integer n) s (made.rolls-Integer n)

  literal_made : (demand : Demand) (n : ℤ) (s : Option Shape) → Placed demand None s → Standing sight demand (record { typed = roll-TypedExpr record { shape = s; node = made.Integer n }; root = None; signed = demand.signed })
  literal_made demand n s p = record {
    keeps = made_keeps sight demand None (made.Integer n) s (valued sight demand (made.Integer n) s true (integer_path n s) refl) p;
    signed = λ is t. ap (λ (m : TypedNode). node_pathed sight m t) (node_of_made sight s (made.Integer n)) ∙ integer_path n t;
  }

  literal_kept : (spot : Spot) (demand : Demand) (own : Option ℕ) (n : ℤ) → Sure (Standing sight demand) (literal_stands spot demand own n)
  literal_kept spot demand own n =
      sure_then (Placed demand None) (Standing sight demand) (placed spot demand own None (gives.Value shape.Integer)) (literal demand.signed n)
      (placed_kept (Placed demand None) spot demand own None (gives.Value shape.Integer) (λ none p. p))
      (λ s p. sure_sound (Standing sight demand) (record { typed = roll-TypedExpr record { shape = s; node = made.Integer n }; root = None; signed = demand.signed }) (literal_made demand n s p))

  integer_at : (spot : Spot) (demand : Demand) (o : Option ℕ) → Sure (Standing sight demand) (integer_stands spot demand o)
  integer_at spot demand None = literal_kept spot demand (Some 11) (pos 0)
  integer_at spot demand (Some n) = literal_kept spot demand None (integer_value demand.signed n)

  -- an integer
  pub integer_kept : (spot : Spot) (digits : List ℕ) → PartKept sight (λ demand. integer_found spot demand digits)
  integer_kept spot digits = record { at_demand = λ demand. integer_at spot demand (within (greatest demand.signed) (number_of digits)) }

  -- a text
  pub text_kept : (spot : Spot) (text : List ℕ) → PartKept sight (λ demand. text_stands spot demand text)
  text_kept spot text = record { at_demand = λ demand. value_kept sight spot demand None (gives.Value shape.Text) (made.Text text) true (λ s. pathed sight (typed.Text text) (made.Text text) s (made.rolls-Text text)) (λ none. refl) }

  -- a boolean
  pub boolean_kept : (spot : Spot) (b : Bool) → PartKept sight (λ demand. boolean_stands spot demand b)
  boolean_kept spot b = record { at_demand = λ demand. value_kept sight spot demand None (gives.Value shape.Boolean) (made.Boolean b) true (λ s. pathed sight (typed.Boolean b) (made.Boolean b) s (made.rolls-Boolean b)) (λ none. refl) }

  -- the context that runs
  pub current_kept : (spot : Spot) → PartKept sight (λ demand. current_stands spot demand)
  current_kept spot = record { at_demand = λ demand. value_kept sight spot demand None (gives.Value shape.Context) made.ContextCurrent true (λ s. pathed sight typed.ContextCurrent made.ContextCurrent s made.rolls-ContextCurrent) (λ none. refl) }

  new_at : (spot : Spot) (demand : Demand) (s : Shape) → Sure (Standing sight demand) (new_stands spot demand s)
  unfolding new_stands
  new_at spot demand s = value_kept sight spot demand None (gives.Value s) made.Default true (λ t. pathed sight typed.Default made.Default t made.rolls-Default) (λ none. refl)

  -- a new value of a type
  pub new_kept : (table : Table) (t : TypeExpr) (spot : Spot) → PartKept sight (λ demand. and_then (type_found table t) (new_stands spot demand))
  new_kept table t spot = record { at_demand = λ demand. sure_then (λ (s : Shape). Unit {0}) (Standing sight demand) (type_found table t) (new_stands spot demand) (sure_any (type_found table t)) (λ s u. new_at spot demand s) }

  -- ---- literals without elements or entries

  empty_at : (spot : Spot) (demand : Demand) (o : Option Shape) (n : TypedNode) → ((s : Option Shape) → node_pathed sight n s ≡ value s true) → Sure (Standing sight demand) (empty_stands o n spot demand)
  empty_at spot demand None n is = value_kept sight spot demand (empty_code demand.wish) gives.Unknown n true is (λ none. refl)
  empty_at spot demand (Some s) n is = value_kept sight spot demand None (gives.Value s) n true is (λ none. refl)

  -- ---- sequences

  abbrev all_of : List TypedExpr → Bool
  all_of items = list_all plain (map (path_of sight) items)

  sequence_path : (items : List TypedExpr) (s : Option Shape) → node_pathed sight (made.Sequence items) s ≡ value s (all_of items)
  sequence_path items s = pathed sight (typed.Sequence items) (made.Sequence items) s (made.rolls-Sequence items)

  -- what is asked of an element is no path of reference type
  pub plain_asked : (w : Wish) (j : Judged) → Standing sight (plainly w) j → plain (path_of sight j.typed) ≡ true
  plain_asked w j s = permits (plainly w) j.root (path_of sight j.typed) s.keeps

  record ElementsKept (elements : Elements) : Type 0 where
    items_plain : all_of elements.items ≡ true

  element_kept : (elements : Elements) (part : Part) → ElementsKept elements → PartKept sight part → Sure ElementsKept (element_found elements part)
  element_kept elements part c p =
      sure_then (Standing sight (plainly (element_wish elements))) ElementsKept (part (plainly (element_wish elements))) (element_of elements) (p.at_demand (plainly (element_wish elements)))
      (λ j a. sure_sound ElementsKept (record { shape = known_first elements.shape (shape_of_expr j.typed); items = elements.items ++ j.typed ∷ [] })
      (record { items_plain = all_push plain (path_of sight) elements.items j.typed c.items_plain (plain_asked (element_wish elements) j a) }))

  sequence_at : (spot : Spot) (demand : Demand) (items : List TypedExpr) (o : Option Shape) → all_of items ≡ true → Sure (Standing sight demand) (sequence_items items o spot demand)
  sequence_at spot demand [] o h = empty_at spot demand (fixed is_sequence demand.wish) (made.Sequence []) (sequence_path [])
  sequence_at spot demand (x ∷ items) o h = value_kept sight spot demand None (sequence_given o) (made.Sequence (x ∷ items)) (all_of (x ∷ items)) (sequence_path (x ∷ items)) (λ none. h)

  sequence_of_kept : (spot : Spot) (demand : Demand) (elements : Elements) → ElementsKept elements → Sure (Standing sight demand) (sequence_of spot demand elements)
  unfolding sequence_of
  sequence_of_kept spot demand elements c = sequence_at spot demand elements.items elements.shape c.items_plain

  -- a sequence
  pub sequence_kept : (parts : List Part) (spot : Spot) → AllByRecursion (PartKept sight) parts → PartKept sight (sequence_found parts spot)
  sequence_kept parts spot all = record {
    at_demand = λ demand.
        sure_then ElementsKept (Standing sight demand) (through element_found no_elements parts) (sequence_of spot demand)
        (sure_through (PartKept sight) ElementsKept element_found (λ c b i p. element_kept c b i p) no_elements parts all (record { items_plain = refl }))
        (sequence_of_kept spot demand);
  }

  -- ---- dictionaries

  -- a key and a value that keep the rules
  pub record PairKept (pair : Pair) : Type 0 where
    pub key_kept : PartKept sight pair.key
    pub entry_value_kept : PartKept sight pair.value

  abbrev entries_plain : List TypedEntry → Bool
  entries_plain entries = list_all (λ p. plain p.key && plain p.value) (map (entry_pathed sight) entries)

  dictionary_path : (entries : List TypedEntry) (s : Option Shape) → node_pathed sight (made.Dictionary entries) s ≡ value s (entries_plain entries)
  dictionary_path entries s = pathed sight (typed.Dictionary entries) (made.Dictionary entries) s (made.rolls-Dictionary entries)

  record EntriesKept (entries : EntryList) : Type 0 where
    all_kept : entries_plain entries.entries ≡ true

  entry_of_kept : (entries : EntryList) (key held : Judged) → EntriesKept entries → plain (path_of sight key.typed) ≡ true → plain (path_of sight held.typed) ≡ true → Sure EntriesKept (entry_of entries key held)
  unfolding entry_of
  entry_of_kept entries key held c h k =
      let entry = roll-TypedEntry record { key = key.typed; value = held.typed } in
      sure_sound EntriesKept (record { key = known_first entries.key (shape_of_expr key.typed); value = known_first entries.value (shape_of_expr held.typed); entries = entries.entries ++ entry ∷ [] })
      (record {
        all_kept = all_push (λ p. plain p.key && plain p.value) (entry_pathed sight) entries.entries entry c.all_kept
            (ap (λ (p : PathPair). plain p.key && plain p.value) (entry_made sight key.typed held.typed) ∙ and_from (plain (path_of sight key.typed)) (plain (path_of sight held.typed)) h k);
      })

  value_found_kept : (entries : EntryList) (part : Part) (key : Judged) → EntriesKept entries → PartKept sight part → plain (path_of sight key.typed) ≡ true → Sure EntriesKept (value_found entries part key)
  unfolding value_found
  value_found_kept entries part key c p h =
      sure_then (Standing sight (plainly (value_wish entries))) EntriesKept (part (plainly (value_wish entries))) (entry_of entries key) (p.at_demand (plainly (value_wish entries)))
      (λ j a. entry_of_kept entries key j c h (plain_asked (value_wish entries) j a))

  entry_kept : (entries : EntryList) (pair : Pair) → EntriesKept entries → PairKept pair → Sure EntriesKept (entry_found entries pair)
  entry_kept entries pair c p =
      sure_then (Standing sight (plainly (key_wish entries.key))) EntriesKept (pair.key (plainly (key_wish entries.key))) (value_found entries pair.value) (p.key_kept.at_demand (plainly (key_wish entries.key)))
      (λ j a. value_found_kept entries pair.value j c p.entry_value_kept (plain_asked (key_wish entries.key) j a))

  dictionary_at : (spot : Spot) (demand : Demand) (entries : List TypedEntry) (g : Gives) → entries_plain entries ≡ true → Sure (Standing sight demand) (dictionary_items entries g spot demand)
  dictionary_at spot demand [] g h = empty_at spot demand (fixed is_dictionary demand.wish) (made.Dictionary []) (dictionary_path [])
  dictionary_at spot demand (x ∷ entries) g h = value_kept sight spot demand None g (made.Dictionary (x ∷ entries)) (entries_plain (x ∷ entries)) (dictionary_path (x ∷ entries)) (λ none. h)

  dictionary_of_kept : (spot : Spot) (demand : Demand) (entries : EntryList) → EntriesKept entries → Sure (Standing sight demand) (dictionary_of spot demand entries)
  unfolding dictionary_of
  dictionary_of_kept spot demand entries c = dictionary_at spot demand entries.entries (dictionary_given entries.key entries.value) c.all_kept

  -- a dictionary
  pub dictionary_kept : (pairs : List Pair) (spot : Spot) → AllByRecursion PairKept pairs → PartKept sight (dictionary_found pairs spot)
  dictionary_kept pairs spot all = record {
    at_demand = λ demand.
        sure_then EntriesKept (Standing sight demand) (through entry_found no_entries pairs) (dictionary_of spot demand)
        (sure_through PairKept EntriesKept entry_found (λ c b i p. entry_kept c b i p) no_entries pairs all (record { all_kept = refl }))
        (dictionary_of_kept spot demand);
  }
