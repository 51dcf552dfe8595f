-- A right side of `->` may name what its left sides bind: the places of names bound there are those that its operands have.
use Rattle.std.proofs.Common.{◌≡◌, ◌+◌, ◌<◌, ◌≤◌, ◌||◌, ◌==◌, ◌∷◌, ◌++◌}
use Rattle.program_laws.proofs.Common.{ℕ, suc, Bool, true, false, List, [], drop, length, Some, refl, sym, ap, subst, ◌∙◌, true≢false, arith, append_assoc, list_any, position_or_len, bytes_eq, and_parts, or_left, or_right, nat_tests, list_any-append, Names, count_up, Scope, Seen, Table, seen, Sofar, is_own, is_among, KnowsTable}
use Rattle.std.specs.Prelude.{cond}
use Rattle.std.proofs.lemmas.List.{drop-append-le}
use Rattle.std.proofs.lemmas.List.Recursion.{is_position_or_len}
use Rattle.program_laws.proofs.Lawful.TermsBound.{Widened}
use Rattle.program_laws.proofs.Lawful.TermsBrought.{or_case}
use Rattle.program_laws.proofs.Lawful.TermsNewly.{Newly, among_append}
use Rattle.program_laws.proofs.Lawful.TermsValues.{among, Lefts}

-- ---- the first place that passes

module _ {A : Type 0} (p : A → Bool) where
  -- by recursion
  abbrev pub place_in : List A → ℕ
  place_in [] = 0
  place_in (x ∷ xs) = cond (p x) 0 (1 + place_in xs)

  -- it is std's
  pub place_is : (xs : List A) → place_in xs ≡ position_or_len p xs
  place_is xs = is_position_or_len place_in p refl (λ x ys. refl) xs

  front_step : (x : A) (xs ys : List A) (b : Bool) → (b || list_any p xs) ≡ true → (list_any p xs ≡ true → place_in (xs ++ ys) < length xs) → cond b 0 (1 + place_in (xs ++ ys)) < suc (length xs)
  front_step x xs ys true h rest = omega arith
  front_step x xs ys false h rest = let less = rest h in omega arith

  front_place : (xs ys : List A) → list_any p xs ≡ true → place_in (xs ++ ys) < length xs
  front_place [] ys h = absurd (true≢false (sym h))
  front_place (x ∷ xs) ys h = front_step x xs ys (p x) h (front_place xs ys)

  behind_step : (x : A) (xs ys : List A) (b : Bool) → (b || list_any p xs) ≡ false → (list_any p xs ≡ false → length xs ≤ place_in (xs ++ ys)) → suc (length xs) ≤ cond b 0 (1 + place_in (xs ++ ys))
  behind_step x xs ys true h rest = absurd (true≢false h)
  behind_step x xs ys false h rest = let most = rest h in omega arith

  behind_place : (xs ys : List A) → list_any p xs ≡ false → length xs ≤ place_in (xs ++ ys)
  behind_place [] ys h = omega arith
  behind_place (x ∷ xs) ys h = behind_step x xs ys (p x) h (behind_place xs ys)

  place_front : (xs ys : List A) → list_any p xs ≡ true → position_or_len p (xs ++ ys) < length xs
  place_front xs ys h = subst (λ (n : ℕ). n < length xs) (place_is (xs ++ ys)) (front_place xs ys h)

  place_behind : (xs ys : List A) → list_any p xs ≡ false → length xs ≤ position_or_len p (xs ++ ys)
  place_behind xs ys h = subst (λ (n : ℕ). length xs ≤ n) (place_is (xs ++ ys)) (behind_place xs ys h)

-- numbers in order are all numbers up to their count
pub among_count : (n m : ℕ) (ns : List ℕ) → count_up n ns ≡ true → n ≤ m → m < n + length ns → among ns m ≡ true
among_count n m [] h low high = absurd (omega arith)
among_count n m (k ∷ ns) h low high =
    let p = and_parts (k == n) (count_up (n + 1) ns) h in
    among_here n m k ns (n == m) refl p.0 (λ apart. among_count (n + 1) m ns p.1 (grind (arith, nat_tests)) (omega arith))
  where
    among_here : (n m k : ℕ) (ns : List ℕ) (b : Bool) → (n == m) ≡ b → (k == n) ≡ true → ((n == m) ≡ false → among ns m ≡ true) → (k == m || among ns m) ≡ true
    among_here n m k ns true is first rest = or_left (k == m) (among ns m) (grind (arith, nat_tests))
    among_here n m k ns false is first rest = or_right (k == m) (among ns m) (rest is)

module _ (table : Table) (scope inner : Scope) (w : Widened scope inner) where
  -- each bound name stands for its place among these, of which it is the first
  abbrev pub Ordered : List (List ℕ) → Type 0
  Ordered all = (name : List ℕ) (x : Seen) → is_own scope inner name ≡ true → seen inner name ≡ Some x → x.number ≡ position_or_len (λ n. bytes_eq n name) all

  -- what is known of the whole, and the names that are bound so far in it
  pub record Within (names : Names) (s : Sofar) : Type 0 where
    pub known : KnowsTable table names scope
    pub all : List (List ℕ)
    pub ordered : Ordered all
    pub rest : List (List ℕ)
    pub prefix : all ≡ s.names ++ rest

  -- in front of a part
  pub within_before : (names : Names) (under : Bool) (s t : Sofar) → Newly under s t → Within names t → Within names s
  within_before names under s t n a = record {
    known = a.known;
    all = a.all;
    ordered = a.ordered;
    rest = n.more ++ a.rest;
    prefix = a.prefix ∙ ap (λ (l : List (List ℕ)). l ++ a.rest) n.are ∙ append_assoc s.names n.more a.rest;
  }

  module _ (names : Names) (under : Bool) (s t : Sofar) (n : Newly under s t) (ns : List ℕ) (counted : count_up (length s.names) ns ≡ true) (many : length t.names ≡ length s.names + length ns) (a : Within names t) where
    new_among : (name : List ℕ) (x : Seen) → is_own scope inner name ≡ true → is_among n.more name ≡ true → seen inner name ≡ Some x → among ns x.number ≡ true
    new_among name x own new at =
        let test = λ (m : List ℕ). bytes_eq m name in
        let place = position_or_len test a.all in
        let number : x.number ≡ place = a.ordered name x own at in
        let here : is_among t.names name ≡ true = ap (λ (l : List (List ℕ)). is_among l name) n.are ∙ among_append s.names n.more name ∙ or_right (is_among s.names name) (is_among n.more name) new in
        let high : place < length t.names = subst (λ (l : List (List ℕ)). position_or_len test l < length t.names) (sym a.prefix) (place_front test t.names a.rest here) in
        let whole : a.all ≡ s.names ++ (n.more ++ a.rest) = a.prefix ∙ ap (λ (l : List (List ℕ)). l ++ a.rest) n.are ∙ append_assoc s.names n.more a.rest in
        let low : length s.names ≤ place = subst (λ (l : List (List ℕ)). length s.names ≤ position_or_len test l) (sym whole) (place_behind test s.names (n.more ++ a.rest) (n.fresh name new)) in
        among_count (length s.names) x.number ns counted (omega arith) (omega arith)

    -- a further left side
    pub lefts_more : (left : List (List ℕ)) (nums : List ℕ) → Lefts table scope inner w left nums → Lefts table scope inner w (left ++ n.more) (nums ++ ns)
    lefts_more left nums l name x own is at =
        list_any-append (λ m. m == x.number) nums ns
        ∙ or_case ((among nums x.number || among ns x.number) ≡ true) (is_among left name) (is_among n.more name) (sym (among_append left n.more name) ∙ is)
        (λ before. or_left (among nums x.number) (among ns x.number) (l name x own before at))
        (λ new. or_right (among nums x.number) (among ns x.number) (new_among name x own new at))

    -- the names since the left side began
    pub lefts_since : (start : ℕ) (left : List (List ℕ)) (nums : List ℕ) → start ≤ length s.names → Lefts table scope inner w (left ++ drop start s.names) nums → Lefts table scope inner w (left ++ drop start t.names) (nums ++ ns)
    lefts_since start left nums low l =
        subst (λ (names : List (List ℕ)). Lefts table scope inner w names (nums ++ ns))
        (append_assoc left (drop start s.names) n.more ∙ ap (λ (m : List (List ℕ)). left ++ m) (sym (drop-append-le start s.names n.more low)) ∙ ap (λ (m : List (List ℕ)). left ++ drop start m) (sym n.are))
        (lefts_more (left ++ drop start s.names) nums l)
