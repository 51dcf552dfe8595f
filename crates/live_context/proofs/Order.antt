-- Ascending numbers, where things come and go.
use Rattle.std.proofs.Common.{◌+◌, ◌-◌, ◌<◌, ◌≤◌, ◌∷◌, ◌++◌, ◌≡◌}
use Rattle.std.proofs.lemmas.List.{map-append}
use Rattle.live_context.proofs.Common.{ℕ, List, [], Bool, true, false, cond, filter, map, refl, subst, sym, ap, ◌∙◌, arith, Value, Instance, Listener, is_instance, put_globals, Ascend, Within, InOrder, number_of, birth_of, owner_of, AreCounts, count_its, with_count, is_born, is_its, not, find, Option, Some, None}
use Rattle.std.specs.Option.{option_map}
use Rattle.live_context.proofs.Searching.{missing_below}
use Rattle.live_context.specs.Steps.{AreSame}
use Rattle.live_context.proofs.Counting.{counts_as, counts_globals, count_same, less_counts, more_counts, no_counts, none_its}
use Rattle.live_context.proofs.Lists.{ascend_same, lower, within_same}

-- one at the front, which stays or goes
ascend_step : {A : Type 0} (n : A → ℕ) (low : ℕ) (b : Bool) (x : A) (xs : List A) → low < n x → Ascend n (n x) xs → Ascend n low (cond b (x ∷ xs) xs)
ascend_step n low true x xs h a = (h, a)
ascend_step n low false x xs h a = lower n (n x) low xs (omega arith) a

pub ascend_filter : {A : Type 0} (n : A → ℕ) (low : ℕ) (p : A → Bool) (xs : List A) → Ascend n low xs → Ascend n low (filter p xs)
ascend_filter n low p [] a = tt
ascend_filter n low p (x ∷ xs) a = ascend_step n low (p x) x (filter p xs) a.0 (ascend_filter n (n x) p xs a.1)

within_step : {A : Type 0} (n : A → ℕ) (high : ℕ) (b : Bool) (x : A) (xs : List A) → n x ≤ high → Within n high xs → Within n high (cond b (x ∷ xs) xs)
within_step n high true x xs h w = (h, w)
within_step n high false x xs h w = w

pub within_filter : {A : Type 0} (n : A → ℕ) (high : ℕ) (p : A → Bool) (xs : List A) → Within n high xs → Within n high (filter p xs)
within_filter n high p [] w = tt
within_filter n high p (x ∷ xs) w = within_step n high (p x) x (filter p xs) w.0 (within_filter n high p xs w.1)

-- one more behind the others
pub ascend_push : {A : Type 0} (n : A → ℕ) (low high : ℕ) (xs : List A) (y : A) → Ascend n low xs → Within n high xs → low < n y → high < n y → Ascend n low (xs ++ y ∷ [])
ascend_push n low high [] y a w l h = (l, tt)
ascend_push n low high (x ∷ xs) y a w l h = let first : n x ≤ high = w.0 in (a.0, ascend_push n (n x) high xs y a.1 w.1 (omega arith) h)

pub within_push : {A : Type 0} (n : A → ℕ) (high next : ℕ) (xs : List A) (y : A) → Within n high xs → high ≤ next → n y ≤ next → Within n next (xs ++ y ∷ [])
within_push n high next [] y w h k = (k, tt)
within_push n high next (x ∷ xs) y w h k = let first : n x ≤ high = w.0 in (omega arith, within_push n high next xs y w.1 h k)

-- other globals
ascend_globals : (number low : ℕ) (globals : List Value) (xs : List Instance) → Ascend number_of low xs → Ascend number_of low (put_globals number globals xs)
ascend_globals number low globals [] a = tt
ascend_globals number low globals (x ∷ xs) a = go (is_instance number x) (ascend_globals number x.number globals xs a.1)
  where
    go : (b : Bool) → Ascend number_of x.number (put_globals number globals xs) → Ascend number_of low (cond b ((record x { globals = globals }) ∷ xs) (x ∷ put_globals number globals xs))
    go true r = (a.0, a.1)
    go false r = (a.0, r)

within_globals : (number high : ℕ) (globals : List Value) (xs : List Instance) → Within number_of high xs → Within number_of high (put_globals number globals xs)
within_globals number high globals [] w = tt
within_globals number high globals (x ∷ xs) w = go (is_instance number x) (within_globals number high globals xs w.1)
  where
    go : (b : Bool) → Within number_of high (put_globals number globals xs) → Within number_of high (cond b ((record x { globals = globals }) ∷ xs) (x ∷ put_globals number globals xs))
    go true r = (w.0, w.1)
    go false r = (w.0, r)

-- a greater bound
pub within_more : {A : Type 0} (n : A → ℕ) (high more : ℕ) (xs : List A) → high ≤ more → Within n high xs → Within n more xs
within_more n high more [] h w = tt
within_more n high more (x ∷ xs) h w = let first : n x ≤ high = w.0 in (omega arith, within_more n high more xs h w.1)

-- ---- what stands behind each change

module _ (births begun : ℕ) (ls : List Listener) (is : List Instance) (counts : List ℕ) where
  pub order_begun : (next : ℕ) (new : List Instance) (new_counts : List ℕ) (i : Instance) → next ≡ begun + 1 → i.number ≡ next → new ≡ is ++ i ∷ [] → new_counts ≡ counts ++ 0 ∷ [] → InOrder births begun ls is counts → InOrder births next ls new new_counts
  order_begun next new new_counts i next_is number_is new_is counts_is o = record {
    births_ascend = o.births_ascend;
    births_within = o.births_within;
    owners_within = within_more owner_of begun next ls (omega arith) o.owners_within;
    numbers_ascend = subst (Ascend number_of 0) (sym new_is) (ascend_push number_of 0 begun is i o.numbers_ascend o.numbers_within (omega arith) (omega arith));
    numbers_within = subst (Within number_of next) (sym new_is) (within_push number_of begun next is i o.numbers_within (omega arith) (omega arith));
    counted = counts_is ∙ ap (λ ns. ns ++ 0 ∷ []) o.counted ∙ ap (λ n. map (λ (j : Instance). count_its ls j.number) is ++ n ∷ []) (sym (none_its begun i.number ls o.owners_within (omega arith))) ∙ sym (map-append (λ (j : Instance). count_its ls j.number) is (i ∷ [])) ∙ ap (map (λ (j : Instance). count_its ls j.number)) (sym new_is);
  }

  pub order_put : (number : ℕ) (globals : List Value) (new : List Instance) (new_counts : List ℕ) → new ≡ put_globals number globals is → new_counts ≡ counts → InOrder births begun ls is counts → InOrder births begun ls new new_counts
  order_put number globals new new_counts new_is counts_is o = record {
    births_ascend = o.births_ascend;
    births_within = o.births_within;
    owners_within = o.owners_within;
    numbers_ascend = subst (Ascend number_of 0) (sym new_is) (ascend_globals number 0 globals is o.numbers_ascend);
    numbers_within = subst (Within number_of begun) (sym new_is) (within_globals number begun globals is o.numbers_within);
    counted = counts_is ∙ o.counted ∙ sym (counts_globals (count_its ls) number globals is) ∙ ap (map (λ (j : Instance). count_its ls j.number)) (sym new_is);
  }

  pub order_removed : (p : Instance → Bool) (new : List Instance) (new_counts : List ℕ) → new ≡ filter p is → (AreCounts (count_its ls) is counts → AreCounts (count_its ls) new new_counts) → InOrder births begun ls is counts → InOrder births begun ls new new_counts
  order_removed p new new_counts new_is counted o = record {
    births_ascend = o.births_ascend;
    births_within = o.births_within;
    owners_within = o.owners_within;
    numbers_ascend = subst (Ascend number_of 0) (sym new_is) (ascend_filter number_of 0 p is o.numbers_ascend);
    numbers_within = subst (Within number_of begun) (sym new_is) (within_filter number_of begun p is o.numbers_within);
    counted = counted o.counted;
  }

  pub order_born : (next : ℕ) (ms : List Listener) (new : List Instance) (new_counts : List ℕ) (l : Listener) → next ≡ births + 1 → l.birth ≡ next → l.instance ≤ begun → ms ≡ ls ++ l ∷ [] → new ≡ is → AreCounts (with_count l.instance (count_its ls l.instance + 1) (count_its ls)) new new_counts → InOrder births begun ls is counts → InOrder next begun ms new new_counts
  order_born next ms new new_counts l next_is birth_is begun_is ms_is new_is counted o = record {
    births_ascend = subst (Ascend birth_of 0) (sym ms_is) (ascend_push birth_of 0 births ls l o.births_ascend o.births_within (omega arith) (omega arith));
    births_within = subst (Within birth_of next) (sym ms_is) (within_push birth_of births next ls l o.births_within (omega arith) (omega arith));
    owners_within = subst (Within owner_of begun) (sym ms_is) (within_push owner_of begun begun ls l o.owners_within (omega arith) begun_is);
    numbers_ascend = subst (Ascend number_of 0) (sym new_is) o.numbers_ascend;
    numbers_within = subst (Within number_of begun) (sym new_is) o.numbers_within;
    counted = subst (λ xs. AreCounts (count_its xs) new new_counts) (sym ms_is) (counts_as (with_count l.instance (count_its ls l.instance + 1) (count_its ls)) (count_its (ls ++ l ∷ [])) new new_counts (more_counts ls l) counted);
  }

  -- some listeners go, and they are counted as they are now
  pub order_quit : (p : Listener → Bool) (ms : List Listener) (new : List Instance) (new_counts : List ℕ) → ms ≡ filter p ls → new ≡ is → AreCounts (count_its (filter p ls)) new new_counts → InOrder births begun ls is counts → InOrder births begun ms new new_counts
  order_quit p ms new new_counts ms_is new_is counted o = record {
    births_ascend = subst (Ascend birth_of 0) (sym ms_is) (ascend_filter birth_of 0 p ls o.births_ascend);
    births_within = subst (Within birth_of births) (sym ms_is) (within_filter birth_of births p ls o.births_within);
    owners_within = subst (Within owner_of begun) (sym ms_is) (within_filter owner_of begun p ls o.owners_within);
    numbers_ascend = subst (Ascend number_of 0) (sym new_is) o.numbers_ascend;
    numbers_within = subst (Within number_of begun) (sym new_is) o.numbers_within;
    counted = subst (λ xs. AreCounts (count_its xs) new new_counts) (sym ms_is) counted;
  }

  pub order_same : (ms : List Listener) → AreSame ls ms → InOrder births begun ls is counts → InOrder births begun ms is counts
  order_same ms same o = record {
    births_ascend = ascend_same birth_of 0 ls ms same.births o.births_ascend;
    births_within = within_same birth_of births ls ms same.births o.births_within;
    owners_within = within_same owner_of begun ls ms same.owners o.owners_within;
    numbers_ascend = o.numbers_ascend;
    numbers_within = o.numbers_within;
    counted = counts_as (count_its ls) (count_its ms) is counts (count_same ls ms same.owners) o.counted;
  }

  -- the listener of a birth goes, where it lives
  pub order_gone : (birth : ℕ) (ms : List Listener) (new : List Instance) (new_counts : List ℕ) (n : ℕ) → Some n ≡ option_map owner_of (find (is_born birth) ls) → ms ≡ filter (λ l. not (is_born birth l)) ls → new ≡ is → AreCounts (with_count n (count_its ls n - 1) (count_its ls)) new new_counts → InOrder births begun ls is counts → InOrder births begun ms new new_counts
  order_gone birth ms new new_counts n n_is ms_is new_is counted o = go (find (is_born birth) ls) refl n_is
    where
      go : (found : Option Listener) → find (is_born birth) ls ≡ found → Some n ≡ option_map owner_of found → InOrder births begun ms new new_counts
      go None e h = absurd (cc)
      go (Some l) e h =
          let same : n ≡ l.instance = cc in
          order_quit (λ m. not (is_born birth m)) ms new new_counts ms_is new_is (counts_as (with_count l.instance (count_its ls l.instance - 1) (count_its ls)) (count_its (filter (λ m. not (is_born birth m)) ls)) new new_counts (less_counts birth 0 ls l o.births_ascend e) (subst (λ k. AreCounts (with_count k (count_its ls k - 1) (count_its ls)) new new_counts) same counted)) o

  pub order_none_gone : (birth : ℕ) (ms : List Listener) → None ≡ option_map owner_of (find (is_born birth) ls) → ms ≡ filter (λ l. not (is_born birth l)) ls → InOrder births begun ls is counts → InOrder births begun ms is counts
  order_none_gone birth ms none ms_is o = subst (λ xs. InOrder births begun xs is counts) (missing_below birth_of 0 birth ls o.births_ascend (go (find (is_born birth) ls) none) ∙ sym ms_is) o
    where
      go : (found : Option Listener) → None ≡ option_map owner_of found → found ≡ None
      go None h = refl
      go (Some l) h = absurd (cc)

  -- the listeners of an instance go
  pub order_all_gone : (instance : ℕ) (ms : List Listener) (new : List Instance) (new_counts : List ℕ) → ms ≡ filter (λ l. not (is_its instance l)) ls → new ≡ is → AreCounts (with_count instance 0 (count_its ls)) new new_counts → InOrder births begun ls is counts → InOrder births begun ms new new_counts
  order_all_gone instance ms new new_counts ms_is new_is counted o = order_quit (λ l. not (is_its instance l)) ms new new_counts ms_is new_is (counts_as (with_count instance 0 (count_its ls)) (count_its (filter (λ l. not (is_its instance l)) ls)) new new_counts (no_counts instance ls) counted) o
