-- Every expression keeps the rules, where the names that it names are seen: those of a whole are those of its parts.
use Rattle.std.proofs.Common.{◌≡◌, ◌∷◌}
use Rattle.program_laws.proofs.Common.{ℕ, true, List, [], refl, AllByRecursion, bytes_eq, bytes_eq-Decides, or_left, or_right, Spot, Sight, Visible, Scope, Table, Judged, Demand, inside, Pair, seen, name_found, Part, Linked, astray_code, Step, codes_of, either, any_of, SeesNamed, KeepsSpecial}
use Rattle.expr_rules.specs.Places.{group_of}
use Rattle.expr_rules.specs.Then.{and_then}
use Rattle.stmt_check.specs.Captures.{Names as Naming}
use Rattle.program_laws.proofs.Exprs.Sure.{Sure, sure_then, sure_node}
use Rattle.program_laws.proofs.Lawful.Calls.{call_kept, context_kept}
use Rattle.program_laws.proofs.Lawful.Literals.{PairKept, integer_kept, text_kept, boolean_kept, current_kept, new_kept, sequence_kept, dictionary_kept}
use Rattle.program_laws.proofs.Lawful.Methods.{method_kept}
use Rattle.program_laws.proofs.Lawful.Names.{name_kept}
use Rattle.program_laws.proofs.Lawful.Operands.{PartKept, LinkKept, not_kept, minus_kept, comparison_kept, logic_kept, links_kept}
use Rattle.program_laws.proofs.Lawful.Standing.{Standing}
use Rattle.program_laws.proofs.Lawful.Steps.{StepKept, field_kept, index_kept}
use Rattle.program_laws.proofs.Exprs.Inductions.{Each, Forms}
use Rattle.program_laws.proofs.Lawful.Walks.{postfix_kept}

module _ (visible : List Visible) (scope : Scope) where
  -- a test that fewer names pass
  sees_fewer : (few more : Naming) → ((name : List ℕ) → few name ≡ true → more name ≡ true) → SeesNamed visible scope more → SeesNamed visible scope few
  sees_fewer few more within s = record { sees_at = λ name seen is at inner free. s.sees_at name seen (within name is) at inner free }

  -- the names of the first of two
  pub sees_left : (one other : Naming) → SeesNamed visible scope (either one other) → SeesNamed visible scope one
  sees_left one other s = sees_fewer one (either one other) (λ name h. or_left (one name) (other name) h) s

  -- the names of the second of two
  pub sees_right : (one other : Naming) → SeesNamed visible scope (either one other) → SeesNamed visible scope other
  sees_right one other s = sees_fewer other (either one other) (λ name h. or_right (one name) (other name) h) s

  sees_first : (part : Naming) (parts : List Naming) → SeesNamed visible scope (any_of (part ∷ parts)) → SeesNamed visible scope part
  sees_first part parts s = sees_fewer part (any_of (part ∷ parts)) (λ name h. or_left (part name) (any_of parts name) h) s

  sees_rest : (part : Naming) (parts : List Naming) → SeesNamed visible scope (any_of (part ∷ parts)) → SeesNamed visible scope (any_of parts)
  sees_rest part parts s = sees_fewer (any_of parts) (any_of (part ∷ parts)) (λ name h. or_right (part name) (any_of parts name) h) s

  -- where all names are seen, each part is as it is where its names are
  pub all_seen : {A : Type 0} (Is : A → Type 0) (ns : List Naming) (xs : List A) → SeesNamed visible scope (any_of ns) → Each (λ n x. SeesNamed visible scope n → Is x) ns xs → AllByRecursion Is xs
  all_seen Is [] [] s each = tt
  all_seen Is [] (x ∷ xs) s each = absurd each
  all_seen Is (n ∷ ns) [] s each = absurd each
  all_seen Is (n ∷ ns) (x ∷ xs) s each = (each.0 (sees_first n ns s), all_seen Is ns xs (sees_rest n ns s) each.1)

module _ (table : Table) (sight : Sight) (scope : Scope) (special : KeepsSpecial table scope sight.special) where
  -- what is claimed of parts, steps, entries and links
  abbrev pub PartSeen : Naming → Part → Type 0
  PartSeen n part = SeesNamed sight.visible scope n → PartKept sight part

  abbrev pub StepSeen : Naming → Step → Type 0
  StepSeen n s = SeesNamed sight.visible scope n → StepKept sight s

  abbrev pub PairSeen : Naming → Pair → Type 0
  PairSeen n pair = SeesNamed sight.visible scope n → PairKept sight pair

  abbrev pub LinkSeen : Naming → Linked → Type 0
  LinkSeen n l = SeesNamed sight.visible scope n → LinkKept sight l

  group_at : (spot : Spot) (demand : Demand) (j : Judged) → Standing sight (inside demand) j → Sure (Standing sight demand) (group_of spot demand j)
  unfolding group_of
  group_at spot demand j s = sure_node (Standing sight demand) spot (codes_of (astray_code demand.astray)) j (λ none. record {
    keeps = record { lawful = s.keeps.lawful; same = s.keeps.same; refers = s.keeps.refers; near = s.keeps.near; freed = s.keeps.freed };
    signed = s.signed;
  })

  group_kept : (part : Part) (spot : Spot) → PartKept sight part → PartKept sight (λ demand. and_then (part (inside demand)) (group_of spot demand))
  group_kept part spot p = record { at_demand = λ demand. sure_then (Standing sight (inside demand)) (Standing sight demand) (part (inside demand)) (group_of spot demand) (p.at_demand (inside demand)) (group_at spot demand) }

  name_seen : (name : List ℕ) (spot : Spot) → SeesNamed sight.visible scope (bytes_eq name) → PartKept sight (λ demand. name_found spot demand (seen scope name))
  name_seen name spot s = record { at_demand = λ demand. name_kept sight spot demand (seen scope name) (λ found at inner free. s.sees_at name found ((bytes_eq-Decides name name).1 refl) at inner free) }

  -- every form keeps the rules, where its parts do
  pub forms_kept : Forms table scope PartSeen StepSeen PairSeen LinkSeen
  forms_kept = record {
    logic_is = λ l first parts n ns spot f fs s. logic_kept sight l first parts spot (f (sees_left sight.visible scope n (any_of ns) s)) (all_seen sight.visible scope (PartKept sight) ns parts (sees_right sight.visible scope n (any_of ns) s) fs);
    not_is = λ part n spot f s. not_kept sight part spot (f s);
    comparison_is = λ left right c n m spot f g s. comparison_kept sight left right c spot (f (sees_left sight.visible scope n m s)) (g (sees_right sight.visible scope n m s));
    links_is = λ l first links n ns spot f fs s. links_kept sight l first links spot (f (sees_left sight.visible scope n (any_of ns) s)) (all_seen sight.visible scope (LinkKept sight) ns links (sees_right sight.visible scope n (any_of ns) s) fs);
    minus_is = λ part n spot f s. minus_kept sight part spot (f s);
    postfix_is = λ part steps n ns spot f fs s. postfix_kept sight part steps spot (f (sees_left sight.visible scope n (any_of ns) s)) (all_seen sight.visible scope (StepKept sight) ns steps (sees_right sight.visible scope n (any_of ns) s) fs);
    integer_is = λ digits spot s. integer_kept sight spot digits;
    quoted_is = λ text spot s. text_kept sight spot text;
    boolean_is = λ b spot s. boolean_kept sight spot b;
    name_is = name_seen;
    call_is = λ name parts ns spot fs s. call_kept sight table scope special name parts spot (all_seen sight.visible scope (PartKept sight) ns parts s fs);
    sequence_is = λ parts ns spot fs s. sequence_kept sight parts spot (all_seen sight.visible scope (PartKept sight) ns parts s fs);
    dictionary_is = λ pairs ns spot fs s. dictionary_kept sight pairs spot (all_seen sight.visible scope (PairKept sight) ns pairs s fs);
    new_is = λ written spot s. new_kept sight table written spot;
    context_is = λ parts ns spot fs s. context_kept sight parts spot (all_seen sight.visible scope (PartKept sight) ns parts s fs);
    current_is = λ spot s. current_kept sight spot;
    group_is = λ part n spot f s. group_kept part spot (f s);
    field_is = λ name s. field_kept sight table name;
    index_is = λ part n own f s. index_kept sight part own (f s);
    method_is = λ name parts ns fs s. method_kept sight name parts (all_seen sight.visible scope (PartKept sight) ns parts s fs);
    pair_is = λ key value n m f g s. record { key_kept = f (sees_left sight.visible scope n m s); entry_value_kept = g (sees_right sight.visible scope n m s) };
    link_is = λ o part n f s. record { operand_kept = f s };
  }
