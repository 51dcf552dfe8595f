-- An event expression in which no fault is found keeps the rules, its operands are plain, and what it names they mention.
use Rattle.std.proofs.Common.{◌≡◌, ◌+◌, ◌&&◌, ◌==◌, ◌∷◌}
use Rattle.program_laws.proofs.Common.{ℕ, Bool, true, false, not, nat_le, List, [], map, length, Some, None, is_some, slice_get, refl, sym, ap, subst, ◌∙◌, true≢false, arith, list_all, position, position_or_len, bytes_eq, and_from, and_parts, eq-eqb, le-leb, not_from_false, not-true, append-nil, EventExpr, TypedExpr, Names, all_mention, Sight, path_of, count_up, Scope, Seen, Table, seen_of, seen, item_at, Sofar, inner_of, term_found, term_read, nothing_yet, event_names, KnowsTable, KnowsNamed, SeesNamed, KeepsSpecial, Mentioned}
use Rattle.std.specs.Prelude.{cond, nat_lt}
use Rattle.typed_program.specs.Paths.{plain}
use Rattle.typed_program.specs.TermRules.{part_of}
use Rattle.typed_program.specs.TermRules.{plain as stands_plain}
use Rattle.listener_check.specs.Terms as reading
use Rattle.program_laws.proofs.Terms.Bounds.{numbered_at, seen_behind}
use Rattle.program_laws.proofs.Terms.CountsTerms.{term_counts}
use Rattle.program_laws.proofs.Terms.Settling as settling
use Rattle.program_laws.proofs.Lawful.Rules.{TermLawful}
use Rattle.program_laws.proofs.Lawful.TermsBound.{Widened, inner_widened}
use Rattle.program_laws.proofs.Lawful.TermsBrought.{ExpressionLaws}
use Rattle.program_laws.proofs.Lawful.TermsKept.{expr_keeps}
use Rattle.program_laws.proofs.Lawful.TermsParts.{TermSo, Whole}
use Rattle.program_laws.proofs.Lawful.TermsPlaces.{place_in, place_is, Ordered}

-- ---- bound names in their order

module _ (name : List ℕ) where
  abbrev has_name : Seen → Bool
  has_name x = bytes_eq x.name name

  abbrev is_name : List ℕ → Bool
  is_name n = bytes_eq n name

  places_same : (xs : List Seen) → place_in is_name (map (λ (x : Seen). x.name) xs) ≡ place_in has_name xs
  places_same [] = refl
  places_same (x ∷ xs) = ap (λ (n : ℕ). cond (bytes_eq x.name name) 0 (1 + n)) (places_same xs)

  named_place : (xs : List Seen) → position_or_len is_name (map (λ (x : Seen). x.name) xs) ≡ position_or_len has_name xs
  named_place xs = sym (place_is is_name (map (λ (x : Seen). x.name) xs)) ∙ places_same xs ∙ place_is has_name xs

  item_here : (xs : List Seen) (x : Seen) (b : Bool) → item_at xs (cond b (Some (position_or_len has_name xs)) None) ≡ Some x → slice_get xs (position_or_len has_name xs) ≡ Some x
  item_here xs x true h = h
  item_here xs x false h = absurd (cc)

  item_there : (xs : List Seen) (x : Seen) → item_at xs (position has_name xs) ≡ Some x → slice_get xs (position_or_len has_name xs) ≡ Some x
  item_there xs x h = item_here xs x (nat_lt (position_or_len has_name xs) (length xs)) h

module _ (laws : ExpressionLaws) (table : Table) (scope : Scope) (event : EventExpr) where
  abbrev inner : Scope
  inner = inner_of table scope event

  abbrev around : Widened scope inner
  around = inner_widened table scope event

  abbrev end : Sofar
  end = (term_read table scope inner event false false [] nothing_yet).after

  -- what is read of it
  whole_so : (sight : Sight) (names : Names) → (term_found table scope event).faults ≡ [] → TermSo table scope inner around sight laws names (reading.part_of table scope inner event).is_not false false [] (event_names event) nothing_yet (term_found table scope event).part.term end
  whole_so sight names none = let part = expr_keeps table scope inner around sight laws names event in let thus = part.reads false false [] nothing_yet in thus.where_clear none

  -- each bound name stands for its place
  all_ordered : (names : Names) → KnowsTable table names scope → KnowsNamed names scope (event_names event) → (term_found table scope event).faults ≡ [] → Ordered table scope inner around end.names
  all_ordered names k named none name x own at =
      let read = settling.all_read k event named none in
      let state = read.state in
      let bound = state.bound in
      let unseen = not-true (is_some (seen_of scope name)) (and_parts (not (is_some (seen_of scope name))) (is_some (seen_of inner name)) own).0 in
      let behind : seen inner name ≡ item_at bound (position (has_name name) bound) = ap (λ (s : Scope). seen s name) state.is ∙ seen_behind scope bound name unseen in
      let there = item_there name bound x (sym behind ∙ at) in
      let numbered = numbered_at names 0 bound (position_or_len (has_name name) bound) x state.numbered there in
      let place : x.number ≡ position_or_len (has_name name) bound = (let number = numbered.numbered in omega arith) in
      place ∙ sym (named_place name bound) ∙ ap (position_or_len (is_name name)) state.named

-- for every event expression
pub terms : ExpressionLaws → (table : Table) (names : Names) (sight : Sight) (scope : Scope) (event : EventExpr) → KnowsTable table names scope → KnowsNamed names scope (event_names event) → SeesNamed sight.visible scope (event_names event) → KeepsSpecial table scope sight.special → (term_found table scope event).faults ≡ [] → TermLawful names sight (term_found table scope event).part
terms laws table names sight scope event k named sees special none =
    let so = whole_so laws table scope event sight names none in
    let counts = term_counts k event named none in
    let typed = (term_found table scope event).part in
    let p = part_of names.types typed.term in
    let whole : Whole table scope (inner laws table scope event) (around laws table scope event) sight laws names (end laws table scope event) = record { known = k; all = (end laws table scope event).names; ordered = all_ordered laws table scope event names k named none; rest = []; prefix = sym (append-nil (end laws table scope event).names) } in
    let brought = so.brings in
    record {
      term =
          and_from (stands_plain p [] && count_up 0 p.binds && (length p.binds == length typed.bound) && nat_le p.leaves 64) (nat_le p.operands 192)
          (and_from (stands_plain p [] && count_up 0 p.binds && (length p.binds == length typed.bound)) (nat_le p.leaves 64)
          (and_from (stands_plain p [] && count_up 0 p.binds) (length p.binds == length typed.bound)
          (and_from (stands_plain p []) (count_up 0 p.binds)
          (and_from (not p.is_not) (p.lawful []) (not_from_false p.is_not (so.is_not_so ∙ so.may_not refl)) (so.lawful whole [] (λ name x own never at. absurd (true≢false (sym never)))))
          counts.in_order)
          (eq-eqb (length p.binds) (length typed.bound) counts.all_bound))
          (le-leb p.leaves 64 counts.few_leaves))
          (le-leb p.operands 192 counts.few_operands);
      operands = ap (list_all (λ e. plain (path_of sight e))) brought.are ∙ brought.plain_so sees special;
    }

abbrev nothing_known : Table → Names
nothing_known table = record { types = table.types; globals = []; locals = []; monitor = 0; actions = [] }

abbrev nothing_seen : Sight
nothing_seen = record { visible = []; special = [] }

-- what an event expression names, one of its operands mentions
pub terms_mention : ExpressionLaws → (table : Table) (scope : Scope) (event : EventExpr) → (term_found table scope event).faults ≡ [] → Mentioned scope (event_names event) (all_mention (term_found table scope event).part.operands)
terms_mention laws table scope event none =
    let so = whole_so laws table scope event nothing_seen (nothing_known table) none in
    let brought = so.brings in
    subst (λ (es : List TypedExpr). Mentioned scope (event_names event) (all_mention es)) (sym brought.are) brought.mention_so
