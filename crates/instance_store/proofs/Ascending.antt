-- Channels in order, and that they stay so.
use Rattle.std.proofs.Common.{◌≡◌, ℕ, Bool, true, false, List, [], ◌∷◌, refl, sym, ap, ◌∙◌}
use Rattle.std.specs.Prelude.{if◌then◌else◌}
use Rattle.std.specs.Str.{bytes_eq}
use Rattle.std.specs.List.{AllByRecursion}
use Rattle.std.specs.declared.cmp.Ordering.{Ordering}
use Rattle.std.specs.declared.cmp.Ordering.TheVariants.{Less, Equal, Greater}
use Rattle.std.specs.Ordering.{is_eq, is_le, is_lt, nat_cmp, ordering_reverse}
use Rattle.std.specs.Cmp.Lexicographic.{slice_cmp}
use Rattle.std.proofs.lemmas.Cmp.{nat_list_cmp_total}
use Rattle.std.proofs.lemmas.Map.Text.{is_eq-slice_cmp}
use Rattle.instance_store.specs.Channels.{Ascend, with_one, without_one}

-- ---- the order of channels

-- where the last two are one
before_same : (a b c : List ℕ) → slice_cmp nat_cmp b c ≡ Equal → slice_cmp nat_cmp a b ≡ slice_cmp nat_cmp a c
before_same a b c h = nat_list_cmp_total.antisymm a b ∙ ap ordering_reverse (nat_list_cmp_total.congr b c a h) ∙ sym (nat_list_cmp_total.antisymm a c)

less_le : (a b c : List ℕ) → slice_cmp nat_cmp a b ≡ Less → is_le (slice_cmp nat_cmp b c) ≡ true → slice_cmp nat_cmp a c ≡ Less
less_le a b c h k = go (slice_cmp nat_cmp b c) refl k
  where
    go : (o : Ordering) → slice_cmp nat_cmp b c ≡ o → is_le o ≡ true → slice_cmp nat_cmp a c ≡ Less
    go Less is k = nat_list_cmp_total.trans a b c h is
    go Equal is k = sym (before_same a b c is) ∙ h
    go Greater is k = cc

le_trans : (a b c : List ℕ) → is_le (slice_cmp nat_cmp a b) ≡ true → is_le (slice_cmp nat_cmp b c) ≡ true → is_le (slice_cmp nat_cmp a c) ≡ true
le_trans a b c h k = go (slice_cmp nat_cmp a b) refl h
  where
    go : (o : Ordering) → slice_cmp nat_cmp a b ≡ o → is_le o ≡ true → is_le (slice_cmp nat_cmp a c) ≡ true
    go Less is h = ap is_le (less_le a b c is k)
    go Equal is h = ap is_le (nat_list_cmp_total.congr a b c is) ∙ k
    go Greater is h = cc

pub lt_le : (o : Ordering) → is_lt o ≡ true → is_le o ≡ true
lt_le Less h = refl
lt_le Equal h = cc
lt_le Greater h = cc

not_before : (a b : List ℕ) → is_lt (slice_cmp nat_cmp a b) ≡ false → is_le (slice_cmp nat_cmp b a) ≡ true
not_before a b h = ap is_le (nat_list_cmp_total.antisymm b a) ∙ go (slice_cmp nat_cmp a b) h
  where
    go : (o : Ordering) → is_lt o ≡ false → is_le (ordering_reverse o) ≡ true
    go Less h = cc
    go Equal h = refl
    go Greater h = refl

pub greater_behind : (channel c d : List ℕ) → slice_cmp nat_cmp c channel ≡ Greater → is_le (slice_cmp nat_cmp c d) ≡ true → slice_cmp nat_cmp d channel ≡ Greater
greater_behind channel c d h k =
    let first : slice_cmp nat_cmp channel c ≡ Less = nat_list_cmp_total.antisymm channel c ∙ ap ordering_reverse h in
    nat_list_cmp_total.antisymm d channel ∙ ap ordering_reverse (less_le channel c d first k)

-- a lesser channel is another one
pub differs_before : (channel c : List ℕ) → is_lt (slice_cmp nat_cmp c channel) ≡ true → bytes_eq c channel ≡ false
differs_before channel c h = sym (is_eq-slice_cmp c channel) ∙ go (slice_cmp nat_cmp c channel) h
  where
    go : (o : Ordering) → is_lt o ≡ true → is_eq o ≡ false
    go Less h = refl
    go Equal h = cc
    go Greater h = cc

pub differs_greater : (channel c : List ℕ) → slice_cmp nat_cmp c channel ≡ Greater → bytes_eq c channel ≡ false
differs_greater channel c h = sym (is_eq-slice_cmp c channel) ∙ ap is_eq h

-- neither lesser nor the same
pub is_greater : (channel c : List ℕ) → is_lt (slice_cmp nat_cmp c channel) ≡ false → bytes_eq c channel ≡ false → slice_cmp nat_cmp c channel ≡ Greater
is_greater channel c h k = go (slice_cmp nat_cmp c channel) h (is_eq-slice_cmp c channel ∙ k)
  where
    go : (o : Ordering) → is_lt o ≡ false → is_eq o ≡ false → o ≡ Greater
    go Less h k = cc
    go Equal h k = cc
    go Greater h k = refl

is_equal : (o : Ordering) → is_eq o ≡ true → o ≡ Equal
is_equal Less h = cc
is_equal Equal h = refl
is_equal Greater h = cc

-- the same channel compares as the other does
pub same_differs : (a b c : List ℕ) → bytes_eq a b ≡ true → bytes_eq a c ≡ bytes_eq b c
same_differs a b c h =
    sym (is_eq-slice_cmp a c) ∙ ap is_eq (nat_list_cmp_total.congr a b c (is_equal (slice_cmp nat_cmp a b) (is_eq-slice_cmp a b ∙ h))) ∙ is_eq-slice_cmp b c

own_reverse : (o : Ordering) → o ≡ ordering_reverse o → is_eq o ≡ true
own_reverse Less h = cc
own_reverse Equal h = refl
own_reverse Greater h = cc

pub same_self : (c : List ℕ) → bytes_eq c c ≡ true
same_self c = sym (is_eq-slice_cmp c c) ∙ own_reverse (slice_cmp nat_cmp c c) (nat_list_cmp_total.antisymm c c)

-- ---- lists of them

-- none of them is a lesser one
abbrev pub AllFrom : List ℕ → List (List ℕ) → Type 0
AllFrom c cs = AllByRecursion (λ d. is_le (slice_cmp nat_cmp c d) ≡ true) cs

from_lesser : (a b : List ℕ) (cs : List (List ℕ)) → is_le (slice_cmp nat_cmp a b) ≡ true → AllFrom b cs → AllFrom a cs
from_lesser a b [] h k = tt
from_lesser a b (c ∷ cs) h k = (le_trans a b c h k.0, from_lesser a b cs h k.1)

module _ (channel : List ℕ) where
  more_from : (x : List ℕ) (cs : List (List ℕ)) → is_le (slice_cmp nat_cmp x channel) ≡ true → AllFrom x cs → AllFrom x (with_one channel cs)
  more_from x [] h k = (h, tt)
  more_from x (c ∷ cs) h k = go (is_lt (slice_cmp nat_cmp c channel)) (more_from x cs h k.1)
    where
      go : (b : Bool) → AllFrom x (with_one channel cs) → AllFrom x (if b then c ∷ with_one channel cs else channel ∷ c ∷ cs)
      go true r = (k.0, r)
      go false r = (h, k)

  pub with_order : (cs : List (List ℕ)) → Ascend cs → Ascend (with_one channel cs)
  with_order [] a = (tt, tt)
  with_order (c ∷ cs) a = go (is_lt (slice_cmp nat_cmp c channel)) refl (with_order cs a.1)
    where
      go : (b : Bool) → is_lt (slice_cmp nat_cmp c channel) ≡ b → Ascend (with_one channel cs) → Ascend (if b then c ∷ with_one channel cs else channel ∷ c ∷ cs)
      go true is r = (more_from c cs (lt_le (slice_cmp nat_cmp c channel) is) a.0, r)
      go false is r = let first : is_le (slice_cmp nat_cmp channel c) ≡ true = not_before c channel is in ((first, from_lesser channel c cs first a.0), a)

  fewer_from : (x : List ℕ) (cs : List (List ℕ)) → AllFrom x cs → AllFrom x (without_one channel cs)
  fewer_from x [] k = tt
  fewer_from x (c ∷ cs) k = go (bytes_eq c channel) (fewer_from x cs k.1)
    where
      go : (b : Bool) → AllFrom x (without_one channel cs) → AllFrom x (if b then cs else c ∷ without_one channel cs)
      go true r = k.1
      go false r = (k.0, r)

  pub without_order : (cs : List (List ℕ)) → Ascend cs → Ascend (without_one channel cs)
  without_order [] a = tt
  without_order (c ∷ cs) a = go (bytes_eq c channel) (without_order cs a.1)
    where
      go : (b : Bool) → Ascend (without_one channel cs) → Ascend (if b then cs else c ∷ without_one channel cs)
      go true r = a.1
      go false r = (fewer_from c cs a.0, r)

-- what is lesser is so before what is
pub before_falls : (channel a b : List ℕ) → is_le (slice_cmp nat_cmp a b) ≡ true → is_lt (slice_cmp nat_cmp b channel) ≡ true → is_lt (slice_cmp nat_cmp a channel) ≡ true
before_falls channel a b h k = go (slice_cmp nat_cmp a b) refl h
  where
    less_is : (o : Ordering) → is_lt o ≡ true → o ≡ Less
    less_is Less h = refl
    less_is Equal h = cc
    less_is Greater h = cc

    go : (o : Ordering) → slice_cmp nat_cmp a b ≡ o → is_le o ≡ true → is_lt (slice_cmp nat_cmp a channel) ≡ true
    go Less is h = ap is_lt (nat_list_cmp_total.trans a b channel is (less_is (slice_cmp nat_cmp b channel) k))
    go Equal is h = ap is_lt (nat_list_cmp_total.congr a b channel is) ∙ k
    go Greater is h = cc
