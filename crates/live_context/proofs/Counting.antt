-- How many listeners instances have, where listeners come and go.
use Rattle.std.proofs.Common.{◌+◌, ◌-◌, ◌<◌, ◌≤◌, ◌∷◌, ◌++◌, ◌||◌, ◌≡◌}
use Rattle.std.specs.List.{list_any}
use Rattle.std.proofs.lemmas.List.{length-append}
use Rattle.std.proofs.lemmas.List.Elements.{filter-append}
use Rattle.live_context.proofs.Common.{ℕ, suc, Bool, true, false, cond, not, List, [], map, length, filter, find, Some, refl, sym, ap, ◌∙◌, subst, eqb, arith, nat_tests, Value, Instance, Listener, is_born, is_its, put_globals, is_instance, AreCounts, count_its, with_count, Ascend, Within, birth_of, owner_of}
use Rattle.live_context.proofs.Lists.{map_same}
use Rattle.live_context.proofs.Searching.{hasnt, all_stay}

-- ---- numbers

equal : (a b : ℕ) → eqb a b ≡ true → a ≡ b
equal a b h = grind (arith, nat_tests)

turned_round : (a b : ℕ) (c : Bool) → eqb a b ≡ c → eqb b a ≡ c
turned_round a b true h = grind (arith, nat_tests)
turned_round a b false h = grind (arith, nat_tests)

greater : (a b : ℕ) → a < b → eqb a b ≡ false
greater a b h = grind (arith, nat_tests)

-- a changed count is what it is at its number and elsewhere
with_count_is : (m n k v : ℕ) (count : ℕ → ℕ) → (k ≡ m → n ≡ v) → (eqb m k ≡ false → count k ≡ v) → with_count m n count k ≡ v
with_count_is m n k v count here there = go (eqb k m) refl
  where
    go : (b : Bool) → eqb k m ≡ b → cond b n (count k) ≡ v
    go true e = here (equal k m e)
    go false e = there (turned_round k m false e)

-- ---- other counts for the same instances

pub counts_as : (f g : ℕ → ℕ) (is : List Instance) (counts : List ℕ) → ((k : ℕ) → f k ≡ g k) → AreCounts f is counts → AreCounts g is counts
counts_as f g is counts same are = are ∙ map_same (λ (i : Instance). f i.number) (λ (i : Instance). g i.number) (λ i. same i.number) is

pub counts_globals : (count : ℕ → ℕ) (number : ℕ) (globals : List Value) (is : List Instance) → map (λ (i : Instance). count i.number) (put_globals number globals is) ≡ map (λ (i : Instance). count i.number) is
counts_globals count number globals [] = refl
counts_globals count number globals (i ∷ is) = go (is_instance number i) (counts_globals count number globals is)
  where
    go : (b : Bool) → map (λ (j : Instance). count j.number) (put_globals number globals is) ≡ map (λ (j : Instance). count j.number) is → map (λ (j : Instance). count j.number) (cond b ((record i { globals = globals }) ∷ is) (i ∷ put_globals number globals is)) ≡ map (λ (j : Instance). count j.number) (i ∷ is)
    go true rest = refl
    go false rest = ap (λ ns. count i.number ∷ ns) rest

-- ---- none

pub none_its : (high k : ℕ) (ls : List Listener) → Within owner_of high ls → high < k → count_its ls k ≡ 0
none_its high k [] w h = refl
none_its high k (l ∷ ls) w h = let first : l.instance ≤ high = w.0 in let other : is_its k l ≡ false = greater l.instance k (omega arith) in rw other (none_its high k ls w.1 h)

-- ---- one more

count_one : (k : ℕ) (l : Listener) (b : Bool) → length (cond b (l ∷ []) []) ≡ cond b 1 0
count_one k l true = refl
count_one k l false = refl

pub count_push : (k : ℕ) (ls : List Listener) (l : Listener) → count_its (ls ++ l ∷ []) k ≡ count_its ls k + cond (is_its k l) 1 0
count_push k ls l = ap length (filter-append (is_its k) ls (l ∷ [])) ∙ length-append (filter (is_its k) ls) (filter (is_its k) (l ∷ [])) ∙ ap (λ n. count_its ls k + n) (count_one k l (is_its k l))

pub more_counts : (ls : List Listener) (l : Listener) (k : ℕ) → with_count l.instance (count_its ls l.instance + 1) (count_its ls) k ≡ count_its (ls ++ l ∷ []) k
more_counts ls l k = with_count_is l.instance (count_its ls l.instance + 1) k (count_its (ls ++ l ∷ []) k) (count_its ls) here there
  where
    same : (a b : ℕ) → a ≡ b → eqb b a ≡ true
    same a b h = grind (arith, nat_tests)

    here : k ≡ l.instance → count_its ls l.instance + 1 ≡ count_its (ls ++ l ∷ []) k
    here h = sym (count_push k ls l ∙ ap (λ b. count_its ls k + cond b 1 0) (same k l.instance h) ∙ ap (λ m. count_its ls m + 1) h)

    there : eqb l.instance k ≡ false → count_its ls k ≡ count_its (ls ++ l ∷ []) k
    there h = let none : count_its ls k + 0 ≡ count_its ls k = omega arith in sym (count_push k ls l ∙ ap (λ b. count_its ls k + cond b 1 0) h ∙ none)

-- no instance has more listeners than were born
room_step : (b : Bool) (l : Listener) (its : List Listener) (low at high : ℕ) → low < at → at ≤ high → length its ≤ high - at → length (cond b (l ∷ its) its) ≤ high - low
room_step true l its low at high above under rest = omega arith
room_step false l its low at high above under rest = omega arith

count_room : (n : Listener → ℕ) (low high k : ℕ) (ls : List Listener) → Ascend n low ls → Within n high ls → count_its ls k ≤ high - low
count_room n low high k [] a w = omega arith
count_room n low high k (l ∷ ls) a w = room_step (is_its k l) l (filter (is_its k) ls) low (n l) high a.0 w.0 (count_room n (n l) high k ls a.1 w.1)

pub count_within : (n : Listener → ℕ) (high k : ℕ) (ls : List Listener) → Ascend n 0 ls → Within n high ls → count_its ls k ≤ high
count_within n high k ls a w = let few : count_its ls k ≤ high - 0 = count_room n 0 high k ls a w in omega arith

pub few_listeners : (n births next : ℕ) → n ≤ births → next ≡ births + 1 → next < 18446744073709551616 → n < 18446744073709551615
few_listeners n births next most next_is fits = omega arith

-- ---- one less

count_in_front : (k : ℕ) (l : Listener) (ls : List Listener) (b : Bool) → length (cond b (l ∷ filter (is_its k) ls) (filter (is_its k) ls)) ≡ count_its ls k + cond b 1 0
count_in_front k l ls true = omega arith
count_in_front k l ls false = omega arith

count_cons : (k : ℕ) (l : Listener) (ls : List Listener) → count_its (l ∷ ls) k ≡ count_its ls k + cond (is_its k l) 1 0
count_cons k l ls = count_in_front k l ls (is_its k l)

count_taken : (b low k : ℕ) (ls : List Listener) (l : Listener) → Ascend birth_of low ls → find (is_born b) ls ≡ Some l → count_its ls k ≡ count_its (filter (λ m. not (is_born b m)) ls) k + cond (is_its k l) 1 0
count_taken b low k [] l a is = absurd (cc)
count_taken b low k (m ∷ ls) l a is = go (count_taken b m.birth k ls l a.1) (is_born b m) refl is
  where
    swapped : (x y z w : ℕ) → x ≡ y + z → x + w ≡ (y + w) + z
    swapped x y z w h = omega arith

    go : (find (is_born b) ls ≡ Some l → count_its ls k ≡ count_its (filter (λ m. not (is_born b m)) ls) k + cond (is_its k l) 1 0) → (c : Bool) → is_born b m ≡ c → cond c (Some m) (find (is_born b) ls) ≡ Some l → count_its (m ∷ ls) k ≡ count_its (cond (not c) (m ∷ filter (λ m. not (is_born b m)) ls) (filter (λ m. not (is_born b m)) ls)) k + cond (is_its k l) 1 0
    go rest true e h =
        let s : m ≡ l = cc in
        let born : m.birth ≡ b = equal m.birth b e in
        let under : b ≤ m.birth = omega arith in
        let stay : ls ≡ filter (hasnt birth_of b) ls = all_stay birth_of m.birth b ls under a.1 in
        count_cons k m ls ∙ ap (λ (x : Listener). count_its ls k + cond (is_its k x) 1 0) s ∙ ap (λ xs. count_its xs k + cond (is_its k l) 1 0) stay
    go rest false e h =
        count_cons k m ls ∙ swapped (count_its ls k) (count_its (filter (λ m. not (is_born b m)) ls) k) (cond (is_its k l) 1 0) (cond (is_its k m) 1 0) (rest h) ∙ ap (λ n. n + cond (is_its k l) 1 0) (sym (count_cons k m (filter (λ m. not (is_born b m)) ls)))

pub less_counts : (b low : ℕ) (ls : List Listener) (l : Listener) → Ascend birth_of low ls → find (is_born b) ls ≡ Some l → (k : ℕ) → with_count l.instance (count_its ls l.instance - 1) (count_its ls) k ≡ count_its (filter (λ m. not (is_born b m)) ls) k
less_counts b low ls l a is k = with_count_is l.instance (count_its ls l.instance - 1) k (count_its (filter (λ m. not (is_born b m)) ls) k) (count_its ls) here there
  where
    same : (a b : ℕ) → a ≡ b → eqb b a ≡ true
    same a b h = grind (arith, nat_tests)

    less : (x y : ℕ) → x ≡ y + 1 → x - 1 ≡ y
    less x y h = omega arith

    none : (x y : ℕ) → x ≡ y + 0 → x ≡ y
    none x y h = omega arith

    here : k ≡ l.instance → count_its ls l.instance - 1 ≡ count_its (filter (λ m. not (is_born b m)) ls) k
    here h = ap (λ m. count_its ls m - 1) (sym h) ∙ less (count_its ls k) (count_its (filter (λ m. not (is_born b m)) ls) k) (count_taken b low k ls l a is ∙ ap (λ c. count_its (filter (λ m. not (is_born b m)) ls) k + cond c 1 0) (same k l.instance h))

    there : eqb l.instance k ≡ false → count_its ls k ≡ count_its (filter (λ m. not (is_born b m)) ls) k
    there h = none (count_its ls k) (count_its (filter (λ m. not (is_born b m)) ls) k) (count_taken b low k ls l a is ∙ ap (λ c. count_its (filter (λ m. not (is_born b m)) ls) k + cond c 1 0) h)

-- ---- all of an instance go

none_left : (j : ℕ) (ls : List Listener) → count_its (filter (λ l. not (is_its j l)) ls) j ≡ 0
none_left j [] = refl
none_left j (l ∷ ls) = go (none_left j ls) (is_its j l) refl
  where
    go : count_its (filter (λ l. not (is_its j l)) ls) j ≡ 0 → (b : Bool) → is_its j l ≡ b → count_its (cond (not b) (l ∷ filter (λ l. not (is_its j l)) ls) (filter (λ l. not (is_its j l)) ls)) j ≡ 0
    go rest true e = rest
    go rest false e = rw e rest

others_stay : (j k : ℕ) (ls : List Listener) → eqb j k ≡ false → count_its ls k ≡ count_its (filter (λ l. not (is_its j l)) ls) k
others_stay j k [] h = refl
others_stay j k (l ∷ ls) h = go (others_stay j k ls h) (is_its j l) refl
  where
    apart : (a j k : ℕ) → eqb a j ≡ true → eqb j k ≡ false → eqb a k ≡ false
    apart a j k e h = subst (λ m. eqb m k ≡ false) (sym (equal a j e)) h

    go : count_its ls k ≡ count_its (filter (λ l. not (is_its j l)) ls) k → (b : Bool) → is_its j l ≡ b → count_its (l ∷ ls) k ≡ count_its (cond (not b) (l ∷ filter (λ l. not (is_its j l)) ls) (filter (λ l. not (is_its j l)) ls)) k
    go rest true e = rw (apart l.instance j k e h) rest
    go rest false e = count_cons k l ls ∙ ap (λ n. n + cond (is_its k l) 1 0) rest ∙ sym (count_cons k l (filter (λ l. not (is_its j l)) ls))

pub no_counts : (j : ℕ) (ls : List Listener) (k : ℕ) → with_count j 0 (count_its ls) k ≡ count_its (filter (λ l. not (is_its j l)) ls) k
no_counts j ls k = with_count_is j 0 k (count_its (filter (λ l. not (is_its j l)) ls) k) (count_its ls) (λ h. sym (ap (count_its (filter (λ l. not (is_its j l)) ls)) h ∙ none_left j ls)) (others_stay j k ls)

-- ---- whether there is one

pub any_its : (k : ℕ) (ls : List Listener) → list_any (is_its k) ls ≡ not (eqb (count_its ls k) 0)
any_its k [] = refl
any_its k (l ∷ ls) = go (any_its k ls) (is_its k l)
  where
    some : (n : ℕ) → true ≡ not (eqb (suc n) 0)
    some n = grind (arith, nat_tests)

    go : list_any (is_its k) ls ≡ not (eqb (count_its ls k) 0) → (b : Bool) → (b || list_any (is_its k) ls) ≡ not (eqb (length (cond b (l ∷ filter (is_its k) ls) (filter (is_its k) ls))) 0)
    go rest true = some (count_its ls k)
    go rest false = rest

-- where there is none, none goes
pub idle_stay : (j : ℕ) (ls : List Listener) → list_any (is_its j) ls ≡ false → ls ≡ filter (λ l. not (is_its j l)) ls
idle_stay j [] none = refl
idle_stay j (l ∷ ls) none = go (idle_stay j ls) (is_its j l) none
  where
    go : (list_any (is_its j) ls ≡ false → ls ≡ filter (λ l. not (is_its j l)) ls) → (b : Bool) → (b || list_any (is_its j) ls) ≡ false → (l ∷ ls) ≡ cond (not b) (l ∷ filter (λ l. not (is_its j l)) ls) (filter (λ l. not (is_its j l)) ls)
    go rest true h = absurd (cc)
    go rest false h = ap (λ ms. l ∷ ms) (rest h)

-- ---- by the instances of listeners alone

pub count_owners : (k : ℕ) (ls : List Listener) → count_its ls k ≡ length (filter (λ n. eqb n k) (map owner_of ls))
count_owners k [] = refl
count_owners k (l ∷ ls) = go (count_owners k ls) (is_its k l)
  where
    go : count_its ls k ≡ length (filter (λ n. eqb n k) (map owner_of ls)) → (b : Bool) → length (cond b (l ∷ filter (is_its k) ls) (filter (is_its k) ls)) ≡ length (cond b (l.instance ∷ filter (λ n. eqb n k) (map owner_of ls)) (filter (λ n. eqb n k) (map owner_of ls)))
    go rest true = ap suc rest
    go rest false = rest

pub count_same : (ls ms : List Listener) → map owner_of ms ≡ map owner_of ls → (k : ℕ) → count_its ls k ≡ count_its ms k
count_same ls ms same k = count_owners k ls ∙ ap (λ ns. length (filter (λ n. eqb n k) ns)) (sym same) ∙ sym (count_owners k ms)
