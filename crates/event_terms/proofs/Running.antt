-- Copies that are stepped at their places, one after another.
use Rattle.std.proofs.Common.{arith, ◌≡◌, ◌<◌, ◌≤◌, ◌+◌, ℕ, zero, suc, List, [], ◌∷◌, ◌++◌, map, take, drop, length, slice_get, slice_set, Some, refl, sym, ap, ◌∙◌, subst}
use Rattle.std.proofs.lemmas.Grind.{drop_more_same}
use Rattle.std.proofs.lemmas.List.{length-set, drop-set-lt, drop_all, drop_more, take-set, take_all, take_more_set}
use Rattle.std.proofs.lemmas.Option.{get_or_from_slice_get}
use Rattle.term_meaning.specs.declared.progress.Ran.{Ran}
use Rattle.term_meaning.specs.declared.progress.Running.{Running, out-Running}
use Rattle.term_meaning.specs.declared.progress.Stepped.{Stepped}
use Rattle.term_meaning.specs.declared.stimulus.Binding.{Binding}
use Rattle.term_meaning.specs.declared.stimulus.Stimulus.{Stimulus}
use Rattle.term_meaning.specs.Operands.{Setting}
use Rattle.term_meaning.specs.Patterns.{Pattern}
use Rattle.term_meaning.specs.Step.{copy_of, none_ran, run_copies, run_copy, step_copy, step_of}
use Rattle.term_meaning.proofs.Still.{copy_step}
use Rattle.event_terms.specs.Runs.{fresh_ran, ran_at}

length_set : {A : Type 0} (xs : List A) (n : ℕ) (x : A) → length (slice_set xs n x) ≡ length xs
length_set xs n x = length-set xs n x

-- what is left from a place on begins with what stands there
pub drop_at : {A : Type 0} (xs : List A) (n : ℕ) (x : A) → n < length xs → slice_get xs n ≡ Some x → drop n xs ≡ x ∷ drop (n + 1) xs
drop_at xs n x within is = drop_more xs n x within ∙ ap (λ y. y ∷ drop (n + 1) xs) (get_or_from_slice_get xs n x x is)

at_head : {A : Type 0} (xs : List A) (n : ℕ) → slice_get xs n ≡ slice_get (drop n xs) 0
at_head [] zero = refl
at_head [] (suc n) = refl
at_head (x ∷ xs) zero = refl
at_head (x ∷ xs) (suc n) = at_head xs n

-- where the same is left from a place on, the same stands there
pub at_same : {A : Type 0} (xs ys : List A) (n : ℕ) (x : A) → drop n xs ≡ drop n ys → slice_get xs n ≡ Some x → slice_get ys n ≡ Some x
at_same xs ys n x e h = at_head ys n ∙ ap (λ zs. slice_get zs 0) (sym e) ∙ sym (at_head xs n) ∙ h

-- the places in front of one, and what is put there
taken : {A : Type 0} (xs : List A) (n : ℕ) (e x : A) → n < length xs → take (n + 1) (slice_set (slice_set xs n e) n x) ≡ take n xs ++ x ∷ []
taken xs n e x within = take_more_set (slice_set xs n e) n x (subst (λ m. n < m) (sym (length_set xs n e)) within) ∙ ap (λ ys. ys ++ x ∷ []) (take-set xs n e)

left_behind : {A : Type 0} (xs : List A) (n : ℕ) (e x : A) → drop (n + 1) (slice_set (slice_set xs n e) n x) ≡ drop (n + 1) xs
left_behind xs n e x = drop-set-lt (n + 1) (slice_set xs n e) n x (omega arith) ∙ drop-set-lt (n + 1) xs n e (omega arith)

module _ (setting : Setting) (s : Stimulus) (p : Pattern) (seen : List Binding) where
  -- the copies in front of this place, with what they gave
  abbrev pub done : ℕ → Ran → Ran
  done at ran = record ran { copies = take at ran.copies }

  -- the copies in front of a place were stepped, and the others are as they were
  pub record Goes (xs : List Running) (next at : ℕ) (ran : Ran) : Type 0 where
    pub count : length ran.copies ≡ length xs
    pub rest : drop at ran.copies ≡ drop at xs
    pub same : run_copies p seen (done at ran) (map (step_copy setting s) (drop at xs)) ≡ run_copies p seen (none_ran next) (map (step_copy setting s) xs)

  pub goes_first : (xs : List Running) (next : ℕ) → Goes xs next 0 (fresh_ran xs next)
  goes_first xs next = record { count = refl; rest = refl; same = refl }

  -- with a copy taken out of its place, another one put there for a while, and what its step left put back
  abbrev pub put_back : List Running → ℕ → Running → Ran → Ran
  put_back copies at e ran = record ran { copies = slice_set copies at e }

  one_ran : (ran : Ran) (at : ℕ) (copy e : Running) (a : Stepped) → at < length ran.copies → a ≡ step_of setting s (out-Running copy).progress p (out-Running copy).bindings ran.next
      → run_copy p seen (done at ran) (step_copy setting s copy) ≡ done (at + 1) (ran_at seen (put_back ran.copies at e ran) at (out-Running copy).bindings a)
  one_ran ran at copy e a within is =
      ap (run_copy p seen (done at ran)) (copy_step setting s copy)
      ∙ ap (λ b. run_copy p seen (done at ran) ((out-Running copy).bindings, (λ q front n. b))) (sym is)
      ∙ ap (λ cs. record (ran_at seen (put_back ran.copies at e ran) at (out-Running copy).bindings a) { copies = cs }) (sym (taken ran.copies at e (copy_of (out-Running copy).bindings a.left) within))

  goes_on : (xs : List Running) (next at : ℕ) (ran : Ran) (copy e : Running) (a : Stepped) → Goes xs next at ran → at < length xs → slice_get ran.copies at ≡ Some copy
      → a ≡ step_of setting s (out-Running copy).progress p (out-Running copy).bindings ran.next
      → Goes xs next (at + 1) (ran_at seen (put_back ran.copies at e ran) at (out-Running copy).bindings a)
  unfolding run_copies
  goes_on xs next at ran copy e a g within there is =
      let new = copy_of (out-Running copy).bindings a.left in
      let inside : at < length ran.copies = subst (λ m. at < m) (sym g.count) within in
      let rest : drop (at + 1) ran.copies ≡ drop (at + 1) xs = drop_more_same ran.copies xs at g.rest in
      let first : drop at xs ≡ copy ∷ drop (at + 1) xs = sym g.rest ∙ drop_at ran.copies at copy inside there ∙ ap (λ ys. copy ∷ ys) rest in
      record {
        count = length_set (slice_set ran.copies at e) at new ∙ length_set ran.copies at e ∙ g.count;
        rest = left_behind ran.copies at e new ∙ rest;
        same =
            ap (λ r. run_copies p seen r (map (step_copy setting s) (drop (at + 1) xs))) (sym (one_ran ran at copy e a inside is))
            ∙ ap (λ ys. run_copies p seen (done at ran) (map (step_copy setting s) ys)) (sym first)
            ∙ g.same;
      }

  pub goes_more : (xs : List Running) (next at : ℕ) (ran : Ran) (mid : List Running) (copy e : Running) (a : Stepped) → Goes xs next at ran → at < length xs → slice_get ran.copies at ≡ Some copy
      → mid ≡ slice_set ran.copies at e → a ≡ step_of setting s (out-Running copy).progress p (out-Running copy).bindings ran.next
      → Goes xs next (at + 1) (ran_at seen (record ran { copies = mid }) at (out-Running copy).bindings a)
  goes_more xs next at ran mid copy e a g within there put is =
      subst (λ m. Goes xs next (at + 1) (ran_at seen (record ran { copies = m }) at (out-Running copy).bindings a)) (sym put) (goes_on xs next at ran copy e a g within there is)

  -- where all were stepped, the run is over
  pub goes_end : (xs : List Running) (next at : ℕ) (ran : Ran) → Goes xs next at ran → length xs ≤ at → ran ≡ run_copies p seen (none_ran next) (map (step_copy setting s) xs)
  unfolding run_copies
  goes_end xs next at ran g past =
      ap (λ cs. record ran { copies = cs }) (sym (take_all at ran.copies (subst (λ m. m ≤ at) (sym g.count) past)))
      ∙ ap (λ ys. run_copies p seen (done at ran) (map (step_copy setting s) ys)) (sym (drop_all at xs past))
      ∙ g.same
