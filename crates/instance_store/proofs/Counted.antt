-- How often channels are held, with one more and one less.
use Rattle.std.proofs.Common.{◌≡◌, ℕ, suc, ◌+◌, ◌-◌, Bool, true, false, List, [], ◌∷◌, refl, sym, ap, ◌∙◌, arith}
use Rattle.std.proofs.lemmas.Bool.Decides.{nat_tests}
use Rattle.std.specs.Prelude.{nat_lt}
use Rattle.std.specs.Str.{bytes_eq}
use Rattle.std.specs.Ordering.{is_lt, nat_cmp}
use Rattle.std.specs.Cmp.Lexicographic.{slice_cmp}
use Rattle.instance_store.specs.Channels.{held_times, holds, with_one, without_one}
use Rattle.instance_store.specs.Lawful.{ChannelsAreCounted}
use Rattle.instance_store.proofs.Ascending.{differs_before, same_differs, same_self, with_order, without_order}

one_more : (n : ℕ) → suc n ≡ n + 1
one_more n = omega arith

one_less : (n : ℕ) → n ≡ suc n - 1
one_less n = omega arith

some_more : (n : ℕ) → true ≡ nat_lt 0 (suc n)
some_more n = sym (grind (arith, nat_tests))

-- one in front counts alike before lists that count alike
counts_in_front : (x c : List ℕ) (cs ds : List (List ℕ)) → held_times x cs ≡ held_times x ds → held_times x (c ∷ cs) ≡ held_times x (c ∷ ds)
counts_in_front x c cs ds r = go (bytes_eq c x) refl
  where
    go : (b : Bool) → bytes_eq c x ≡ b → held_times x (c ∷ cs) ≡ held_times x (c ∷ ds)
    go true is = rw is (ap suc r)
    go false is = rw is r

-- another one in front isn't counted
skipped : (x c : List ℕ) (cs : List (List ℕ)) → bytes_eq c x ≡ false → held_times x (c ∷ cs) ≡ held_times x cs
skipped x c cs differ = rw differ refl

not_first : (channel c : List ℕ) (cs : List (List ℕ)) → bytes_eq c channel ≡ false → without_one channel (c ∷ cs) ≡ c ∷ without_one channel cs
not_first channel c cs differ = rw differ refl

module _ (channel : List ℕ) where
  more_here : (cs : List (List ℕ)) → held_times channel (with_one channel cs) ≡ held_times channel cs + 1
  more_here [] = rw (same_self channel) refl
  more_here (c ∷ cs) = go (is_lt (slice_cmp nat_cmp c channel)) refl (more_here cs)
    where
      go : (b : Bool) → is_lt (slice_cmp nat_cmp c channel) ≡ b → held_times channel (with_one channel cs) ≡ held_times channel cs + 1 → held_times channel (with_one channel (c ∷ cs)) ≡ held_times channel (c ∷ cs) + 1
      go true is r = let differ : bytes_eq c channel ≡ false = differs_before channel c is in rw (is, differ) r
      go false is r = rw (is, same_self channel) (one_more (held_times channel (c ∷ cs)))

  more_there : (x : List ℕ) → bytes_eq channel x ≡ false → (cs : List (List ℕ)) → held_times x (with_one channel cs) ≡ held_times x cs
  more_there x other [] = rw other refl
  more_there x other (c ∷ cs) = go (is_lt (slice_cmp nat_cmp c channel)) refl (more_there x other cs)
    where
      go : (b : Bool) → is_lt (slice_cmp nat_cmp c channel) ≡ b → held_times x (with_one channel cs) ≡ held_times x cs → held_times x (with_one channel (c ∷ cs)) ≡ held_times x (c ∷ cs)
      go true is r = rw is (counts_in_front x c (with_one channel cs) cs r)
      go false is r = rw (is, other) refl

  fewer_here : (cs : List (List ℕ)) → held_times channel (without_one channel cs) ≡ held_times channel cs - 1
  fewer_here [] = refl
  fewer_here (c ∷ cs) = go (bytes_eq c channel) refl (fewer_here cs)
    where
      go : (b : Bool) → bytes_eq c channel ≡ b → held_times channel (without_one channel cs) ≡ held_times channel cs - 1 → held_times channel (without_one channel (c ∷ cs)) ≡ held_times channel (c ∷ cs) - 1
      go true is r = rw is (one_less (held_times channel cs))
      go false is r = ap (held_times channel) (not_first channel c cs is) ∙ skipped channel c (without_one channel cs) is ∙ r ∙ ap (λ n. n - 1) (sym (skipped channel c cs is))

  fewer_there : (x : List ℕ) → bytes_eq channel x ≡ false → (cs : List (List ℕ)) → held_times x (without_one channel cs) ≡ held_times x cs
  fewer_there x other [] = refl
  fewer_there x other (c ∷ cs) = go (bytes_eq c channel) refl (fewer_there x other cs)
    where
      go : (b : Bool) → bytes_eq c channel ≡ b → held_times x (without_one channel cs) ≡ held_times x cs → held_times x (without_one channel (c ∷ cs)) ≡ held_times x (c ∷ cs)
      go true is r = let differ : bytes_eq c x ≡ false = same_differs c channel x is ∙ other in rw (is, differ) refl
      go false is r = rw is (counts_in_front x c (without_one channel cs) cs r)

  held_some : (cs : List (List ℕ)) → holds channel cs ≡ nat_lt 0 (held_times channel cs)
  held_some [] = refl
  held_some (c ∷ cs) = go (bytes_eq c channel) refl (held_some cs)
    where
      go : (b : Bool) → bytes_eq c channel ≡ b → holds channel cs ≡ nat_lt 0 (held_times channel cs) → holds channel (c ∷ cs) ≡ nat_lt 0 (held_times channel (c ∷ cs))
      go true is r = rw is (some_more (held_times channel cs))
      go false is r = rw is r

pub are_counted : ChannelsAreCounted
are_counted channel old a = record {
  more_order = with_order channel old a;
  more_here = more_here channel old;
  more_there = λ c other. more_there channel c other old;
  fewer_order = without_order channel old a;
  fewer_here = fewer_here channel old;
  fewer_there = λ c other. fewer_there channel c other old;
  held = held_some channel old;
}
