-- Instances and listeners at the places where they are found.
use Rattle.std.proofs.Common.{◌<◌, ◌≤◌, ◌∷◌, ◌≡◌}
use Rattle.std.specs.Prelude.{get_or, nat_lt}
use Rattle.std.specs.List.{remove}
use Rattle.std.proofs.lemmas.Option.{get_or_from_slice_get, slice_get_within, slice_get-map}
use Rattle.std.specs.Option.{option_map}
use Rattle.live_context.proofs.Common.{ℕ, suc, Bool, true, false, cond, List, [], Option, Some, None, slice_get, slice_set, refl, sym, ap, ◌∙◌, eqb, arith, nat_tests, find, map, Value, Instance, Listener, LiveInstance, is_born, is_instance, put_expression, put_globals, Ascend, below, number_of, birth_of, FoundAt, instances_in, counts_in, with_count, AreCounts, owner_of, filter, not}
use Rattle.term_meaning.specs.UnderWay.{UnderWay}
use Rattle.live_context.specs.Places.{BornAt}
use Rattle.live_context.proofs.Searching.{before, found_below, has, only, removed_below}
use Rattle.live_context.proofs.Lists.{map_put, map_put_same, map_removed}

-- ---- what stands where those with lesser numbers end

there : {A : Type 0} (n : A → ℕ) (k : ℕ) (xs : List A) (at : ℕ) (o : Option A) → Ascend n 0 xs → at ≡ below n k xs → o ≡ slice_get xs at → only n k o ≡ find (has n k) xs
there n k xs at o a at_is o_is = ap (only n k) (o_is ∙ ap (slice_get xs) at_is) ∙ found_below n 0 k xs a

same_number : (a b : ℕ) → a ≡ b → eqb a b ≡ true
same_number a b h = grind (arith, nat_tests)

pub there_none : {A : Type 0} (n : A → ℕ) (k : ℕ) (xs : List A) (at : ℕ) → Ascend n 0 xs → at ≡ below n k xs → None ≡ slice_get xs at → None ≡ find (has n k) xs
there_none n k xs at a at_is is = there n k xs at None a at_is is

pub there_other : {A : Type 0} (n : A → ℕ) (k : ℕ) (xs : List A) (at : ℕ) (x : A) → Ascend n 0 xs → at ≡ below n k xs → Some x ≡ slice_get xs at → eqb (n x) k ≡ false → None ≡ find (has n k) xs
there_other n k xs at x a at_is is other = sym (ap (λ b. cond b (Some x) None) other) ∙ there n k xs at (Some x) a at_is is

pub there_same : {A : Type 0} (n : A → ℕ) (k : ℕ) (xs : List A) (at : ℕ) (x : A) → Ascend n 0 xs → at ≡ below n k xs → Some x ≡ slice_get xs at → n x ≡ k → Some x ≡ find (has n k) xs
there_same n k xs at x a at_is is same = sym (ap (λ b. cond b (Some x) None) (same_number (n x) k same)) ∙ there n k xs at (Some x) a at_is is

at_below : {A : Type 0} (n : A → ℕ) (k : ℕ) (xs : List A) (at : ℕ) (x : A) → at ≡ below n k xs → Some x ≡ slice_get xs at → slice_get xs (below n k xs) ≡ Some x
at_below n k xs at x at_is is = sym (is ∙ ap (slice_get xs) at_is)

-- ---- globals are put there

put_below : (number : ℕ) (globals : List Value) (xs : List Instance) (y : Instance) → slice_get xs (below number_of number xs) ≡ Some y → has number_of number y ≡ true → put_globals number globals xs ≡ slice_set xs (below number_of number xs) (record y { globals = globals })
put_below number globals [] y is same = absurd (cc)
put_below number globals (x ∷ xs) y is same = go (put_below number globals xs y) (before number_of number x) refl is
  where
    lesser : (a b : ℕ) → nat_lt a b ≡ true → eqb a b ≡ false
    lesser a b h = grind (arith, nat_tests)

    go : (slice_get xs (below number_of number xs) ≡ Some y → has number_of number y ≡ true → put_globals number globals xs ≡ slice_set xs (below number_of number xs) (record y { globals = globals })) → (b : Bool) → before number_of number x ≡ b → slice_get (x ∷ xs) (cond b (suc (below number_of number xs)) 0) ≡ Some y → put_globals number globals (x ∷ xs) ≡ slice_set (x ∷ xs) (cond b (suc (below number_of number xs)) 0) (record y { globals = globals })
    go rest true e h = let f : is_instance number x ≡ false = lesser x.number number e in rw f (ap (λ ys. x ∷ ys) (rest h same))
    go rest false e h = let s : x ≡ y = cc in let f : is_instance number x ≡ true = ap (is_instance number) s ∙ same in rw f (ap (λ (i : Instance). (record i { globals = globals }) ∷ xs) s)

-- ---- a count is put there

counts_below : (number n : ℕ) (count : ℕ → ℕ) (low : ℕ) (xs : List Instance) (y : Instance) → Ascend number_of low xs → slice_get xs (below number_of number xs) ≡ Some y → has number_of number y ≡ true → slice_set (map (λ (i : Instance). count i.number) xs) (below number_of number xs) n ≡ map (λ (i : Instance). with_count number n count i.number) xs
counts_below number n count low [] y a is same = absurd (cc)
counts_below number n count low (x ∷ xs) y a is same = go (counts_below number n count x.number xs y a.1) (before number_of number x) refl is
  where
    lesser : (a b : ℕ) → nat_lt a b ≡ true → eqb a b ≡ false
    lesser a b h = grind (arith, nat_tests)

    greater : (a b : ℕ) → a < b → eqb b a ≡ false
    greater a b h = grind (arith, nat_tests)

    equal : (a b : ℕ) → eqb a b ≡ true → a ≡ b
    equal a b h = grind (arith, nat_tests)

    -- behind it all have greater numbers
    others : (low : ℕ) (zs : List Instance) → number ≤ low → Ascend number_of low zs → map (λ (i : Instance). count i.number) zs ≡ map (λ (i : Instance). with_count number n count i.number) zs
    others low [] h a = refl
    others low (z ∷ zs) h a = let first : low < z.number = a.0 in let f : eqb z.number number ≡ false = greater number z.number (omega arith) in rw f (ap (λ ns. count z.number ∷ ns) (others z.number zs (omega arith) a.1))

    go : (slice_get xs (below number_of number xs) ≡ Some y → has number_of number y ≡ true → slice_set (map (λ (i : Instance). count i.number) xs) (below number_of number xs) n ≡ map (λ (i : Instance). with_count number n count i.number) xs) → (b : Bool) → before number_of number x ≡ b → slice_get (x ∷ xs) (cond b (suc (below number_of number xs)) 0) ≡ Some y → slice_set (map (λ (i : Instance). count i.number) (x ∷ xs)) (cond b (suc (below number_of number xs)) 0) n ≡ map (λ (i : Instance). with_count number n count i.number) (x ∷ xs)
    go rest true e h = let f : eqb x.number number ≡ false = lesser x.number number e in rw f (ap (λ ns. count x.number ∷ ns) (rest h same))
    go rest false e h = let s : x ≡ y = cc in let f : eqb x.number number ≡ true = ap (has number_of number) s ∙ same in let z : x.number ≡ number = equal x.number number f in rw f (ap (λ ns. n ∷ ns) (others x.number xs (omega arith) a.1))

instance_there : (xs : List LiveInstance) (at : ℕ) (x : LiveInstance) → Some x ≡ slice_get xs at → Some x.instance ≡ slice_get (instances_in xs) at
instance_there xs at x is = sym (slice_get-map (λ (y : LiveInstance). y.instance) xs at ∙ ap (option_map (λ (y : LiveInstance). y.instance)) (sym is))

pub no_instance_there : (xs : List LiveInstance) (at : ℕ) → None ≡ slice_get xs at → None ≡ slice_get (instances_in xs) at
no_instance_there xs at is = sym (slice_get-map (λ (y : LiveInstance). y.instance) xs at ∙ ap (option_map (λ (y : LiveInstance). y.instance)) (sym is))

pub found_none : (number : ℕ) (xs : List LiveInstance) (at : ℕ) → Ascend number_of 0 (instances_in xs) → at ≡ below number_of number (instances_in xs) → None ≡ slice_get xs at → None ≡ find (is_instance number) (instances_in xs)
found_none number xs at a at_is is = there_none number_of number (instances_in xs) at a at_is (no_instance_there xs at is)

pub found_other : (number : ℕ) (xs : List LiveInstance) (at : ℕ) (x : LiveInstance) → Ascend number_of 0 (instances_in xs) → at ≡ below number_of number (instances_in xs) → Some x ≡ slice_get xs at → eqb x.instance.number number ≡ false → None ≡ find (is_instance number) (instances_in xs)
found_other number xs at x a at_is is other = there_other number_of number (instances_in xs) at x.instance a at_is (instance_there xs at x is) other

pub found_there : (number : ℕ) (xs : List LiveInstance) (at : ℕ) (x : LiveInstance) → Ascend number_of 0 (instances_in xs) → at ≡ below number_of number (instances_in xs) → Some x ≡ slice_get xs at → x.instance.number ≡ number → FoundAt number xs at
found_there number xs at x a at_is is same =
    let instances : Some x.instance ≡ slice_get (instances_in xs) at = instance_there xs at x is in
    let here : slice_get (instances_in xs) (below number_of number (instances_in xs)) ≡ Some x.instance = at_below number_of number (instances_in xs) at x.instance at_is instances in
    let has_it : has number_of number x.instance ≡ true = same_number x.instance.number number same in
    record {
      found = x;
      is = sym (there_same number_of number (instances_in xs) at x.instance a at_is instances same);
      here = sym is;
      same = same;
      below = slice_get_within xs at x (sym is);
      puts = λ globals. rw at_is (put_below number globals (instances_in xs) x.instance here has_it);
      counts = λ n count. rw at_is (counts_below number n count 0 (instances_in xs) x.instance a here has_it);
      removes = rw at_is (removed_below number_of 0 number (instances_in xs) x.instance a here has_it);
    }

-- ---- what is found of it, and what is put there

module _ (number : ℕ) (xs : List LiveInstance) (at : ℕ) (f : FoundAt number xs at) where
  pub count_there : (n : ℕ) → n ≡ f.found.listeners → (count : ℕ → ℕ) → AreCounts count (instances_in xs) (counts_in xs) → n ≡ count number
  count_there n n_is count are =
      let seen : slice_get (counts_in xs) at ≡ Some f.found.listeners = slice_get-map (λ (x : LiveInstance). x.listeners) xs at ∙ ap (option_map (λ (x : LiveInstance). x.listeners)) f.here in
      let counted : slice_get (map (λ (i : Instance). count i.number) (instances_in xs)) at ≡ Some (count f.found.instance.number) = slice_get-map (λ (i : Instance). count i.number) (instances_in xs) at ∙ ap (option_map (λ (i : Instance). count i.number)) (sym (instance_there xs at f.found (sym f.here))) in
      let both : Some f.found.listeners ≡ Some (count f.found.instance.number) = sym seen ∙ ap (λ ns. slice_get ns at) are ∙ counted in
      let same : f.found.listeners ≡ count f.found.instance.number = cc in
      n_is ∙ same ∙ ap count f.same

  pub counted_instances : (n : ℕ) (ys : List LiveInstance) → ys ≡ slice_set xs at (record f.found { listeners = n }) → instances_in ys ≡ instances_in xs
  counted_instances n ys ys_is = ap instances_in ys_is ∙ map_put_same (λ (x : LiveInstance). x.instance) xs at f.found (record f.found { listeners = n }) f.here refl

  pub counted_counts : (n : ℕ) (ys : List LiveInstance) → ys ≡ slice_set xs at (record f.found { listeners = n }) → (count : ℕ → ℕ) → AreCounts count (instances_in xs) (counts_in xs) → AreCounts (with_count number n count) (instances_in ys) (counts_in ys)
  counted_counts n ys ys_is count are =
      ap counts_in ys_is ∙ map_put (λ (x : LiveInstance). x.listeners) xs at (record f.found { listeners = n }) ∙ ap (λ ns. slice_set ns at n) are ∙ f.counts n count ∙ ap (map (λ (i : Instance). with_count number n count i.number)) (sym (counted_instances n ys ys_is))

  pub lent_instances : (globals : List Value) (ys : List LiveInstance) → ys ≡ slice_set xs at (record f.found { instance = record f.found.instance { globals = globals } }) → instances_in ys ≡ put_globals number globals (instances_in xs)
  lent_instances globals ys ys_is = ap instances_in ys_is ∙ map_put (λ (x : LiveInstance). x.instance) xs at (record f.found { instance = record f.found.instance { globals = globals } }) ∙ sym (f.puts globals)

  pub lent_counts : (globals : List Value) (ys : List LiveInstance) → ys ≡ slice_set xs at (record f.found { instance = record f.found.instance { globals = globals } }) → counts_in ys ≡ counts_in xs
  lent_counts globals ys ys_is = ap counts_in ys_is ∙ map_put_same (λ (x : LiveInstance). x.listeners) xs at f.found (record f.found { instance = record f.found.instance { globals = globals } }) f.here refl

  pub taken_instances : (ys : List LiveInstance) → ys ≡ remove xs at → instances_in ys ≡ filter (λ i. not (is_instance number i)) (instances_in xs)
  taken_instances ys ys_is = ap instances_in ys_is ∙ map_removed (λ (x : LiveInstance). x.instance) xs at ∙ f.removes

  pub taken_counts : (ys : List LiveInstance) → ys ≡ remove xs at → (count : ℕ → ℕ) → AreCounts count (instances_in xs) (counts_in xs) → AreCounts count (instances_in ys) (counts_in ys)
  taken_counts ys ys_is count are =
      ap counts_in ys_is ∙ map_removed (λ (x : LiveInstance). x.listeners) xs at ∙ ap (λ ns. remove ns at) are ∙ sym (map_removed (λ (i : Instance). count i.number) (instances_in xs) at) ∙ ap (map (λ (i : Instance). count i.number)) (sym (map_removed (λ (x : LiveInstance). x.instance) xs at) ∙ ap instances_in (sym ys_is))

-- where there is none, the counts are the same
pub missing_count : (number n : ℕ) (count : ℕ → ℕ) (xs : List Instance) → find (is_instance number) xs ≡ None → map (λ (i : Instance). count i.number) xs ≡ map (λ (i : Instance). with_count number n count i.number) xs
missing_count number n count [] none = refl
missing_count number n count (x ∷ xs) none = go (missing_count number n count xs) (is_instance number x) refl none
  where
    go : (find (is_instance number) xs ≡ None → map (λ (i : Instance). count i.number) xs ≡ map (λ (i : Instance). with_count number n count i.number) xs) → (b : Bool) → is_instance number x ≡ b → cond b (Some x) (find (is_instance number) xs) ≡ None → map (λ (i : Instance). count i.number) (x ∷ xs) ≡ map (λ (i : Instance). with_count number n count i.number) (x ∷ xs)
    go rest true e h = absurd (cc)
    go rest false e h = rw e (ap (λ ns. count x.number ∷ ns) (rest h))

-- ---- an event expression is put there

expression_below : (birth : ℕ) (expression : UnderWay) (xs : List Listener) (y : Listener) → slice_get xs (below birth_of birth xs) ≡ Some y → has birth_of birth y ≡ true → put_expression birth expression xs ≡ slice_set xs (below birth_of birth xs) (record y { expression = expression })
expression_below birth expression [] y is same = absurd (cc)
expression_below birth expression (x ∷ xs) y is same = go (expression_below birth expression xs y) (before birth_of birth x) refl is
  where
    lesser : (a b : ℕ) → nat_lt a b ≡ true → eqb a b ≡ false
    lesser a b h = grind (arith, nat_tests)

    go : (slice_get xs (below birth_of birth xs) ≡ Some y → has birth_of birth y ≡ true → put_expression birth expression xs ≡ slice_set xs (below birth_of birth xs) (record y { expression = expression })) → (b : Bool) → before birth_of birth x ≡ b → slice_get (x ∷ xs) (cond b (suc (below birth_of birth xs)) 0) ≡ Some y → put_expression birth expression (x ∷ xs) ≡ slice_set (x ∷ xs) (cond b (suc (below birth_of birth xs)) 0) (record y { expression = expression })
    go rest true e h = let f : is_born birth x ≡ false = lesser x.birth birth e in rw f (ap (λ ys. x ∷ ys) (rest h same))
    go rest false e h = let s : x ≡ y = cc in let f : is_born birth x ≡ true = ap (is_born birth) s ∙ same in rw f (ap (λ (l : Listener). (record l { expression = expression }) ∷ xs) s)

pub born_there : (birth : ℕ) (xs : List Listener) (at : ℕ) (x : Listener) → Ascend birth_of 0 xs → at ≡ below birth_of birth xs → Some x ≡ slice_get xs at → x.birth ≡ birth → BornAt birth xs at
born_there birth xs at x a at_is is same =
    let here : slice_get xs (below birth_of birth xs) ≡ Some x = at_below birth_of birth xs at x at_is is in
    let has_it : has birth_of birth x ≡ true = same_number x.birth birth same in
    record {
      found = x;
      is = sym (there_same birth_of birth xs at x a at_is is same);
      here = sym is;
      below = slice_get_within xs at x (sym is);
      puts = λ expression. rw at_is (expression_below birth expression xs x here has_it);
      removes = rw at_is (removed_below birth_of 0 birth xs x a here has_it);
    }

-- the instance of a listener that was taken from its place
pub gone_owner : (birth : ℕ) (xs : List Listener) (at : ℕ) (b : BornAt birth xs at) (x : Listener) (n : ℕ) → x ≡ get_or xs at x → n ≡ x.instance → Some n ≡ option_map owner_of (find (is_born birth) xs)
gone_owner birth xs at b x n x_is n_is =
    let same : x ≡ b.found = x_is ∙ get_or_from_slice_get xs at b.found x b.here in
    ap Some (n_is ∙ ap owner_of same) ∙ ap (option_map owner_of) (sym b.is)

-- the globals of the first with a number are put twice
pub put_put : (number : ℕ) (before globals : List Value) (xs : List Instance) → put_globals number globals (put_globals number before xs) ≡ put_globals number globals xs
put_put number before globals [] = refl
put_put number before globals (x ∷ xs) = go (put_put number before globals xs) (is_instance number x) refl
  where
    go : (put_globals number globals (put_globals number before xs) ≡ put_globals number globals xs) → (b : Bool) → is_instance number x ≡ b → put_globals number globals (cond b ((record x { globals = before }) ∷ xs) (x ∷ put_globals number before xs)) ≡ cond b ((record x { globals = globals }) ∷ xs) (x ∷ put_globals number globals xs)
    go rest true e = rw e refl
    go rest false e = rw e (ap (λ ys. x ∷ ys) rest)

-- where there is none, none is changed
pub missing_put : (number : ℕ) (globals : List Value) (xs : List Instance) → find (is_instance number) xs ≡ None → xs ≡ put_globals number globals xs
missing_put number globals [] none = refl
missing_put number globals (x ∷ xs) none = go (missing_put number globals xs) (is_instance number x) refl none
  where
    go : (find (is_instance number) xs ≡ None → xs ≡ put_globals number globals xs) → (b : Bool) → is_instance number x ≡ b → cond b (Some x) (find (is_instance number) xs) ≡ None → (x ∷ xs) ≡ cond b ((record x { globals = globals }) ∷ xs) (x ∷ put_globals number globals xs)
    go rest true e h = absurd (cc)
    go rest false e h = ap (λ ys. x ∷ ys) (rest h)
