-- The items of a file, line by line.
use Rattle.evt_reader.proofs.Common.{ℕ, ℤ, pos, zero, suc, List, [], length, take, Option, Some, None, Result, Ok, Err, slice_get, refl, sym, subst, ◌∙◌, ap, arith, append_assoc, length-append, inl, inr, flat_map, option_to_list, IsErrAnd, lines, same_Some, err_from_is_err_and, EventShape, Item, AreEventTypes, IsLine, AreLines, lines_of, GivesItems, TakesOff}
use Rattle.std.proofs.Common.{◌≡◌, ◌+◌, ◌<◌, ◌≤◌, ◌∷◌, ◌++◌, ◌&&◌, ◌==◌, append-nil}
use Rattle.std.proofs.lemmas.Bool.{cases_order, cond_both}
use Rattle.std.proofs.lemmas.Option.{none-some}
use Rattle.evt_reader.specs.Files.{last_time, time_after, without_mark}
use Rattle.evt_reader.specs.Steps.{TakesLine}
use Rattle.evt_reader.specs.declared.fault.LineFault.{LineFault}
use Rattle.evt_reader.specs.declared.fault.LineFault.TheVariants.{Line, Memory}
use Rattle.evt_reader.proofs.Meanings.{line-same}

-- the lines before the rest are read
pub record IsRead (types : List EventShape) (bytes rest : List ℕ) (number : ℕ) (last : ℤ) (items : List Item) : Type 0 where
  pub done : List (List ℕ)
  pub meant : List (Option Item)
  pub cut : lines_of bytes ≡ done ++ lines rest
  pub lines_are : AreLines types (pos 0) done meant
  pub items_are : items ≡ flat_map option_to_list meant
  pub last_is : last ≡ last_time (pos 0) meant
  pub count : number ≡ length done
  pub size : number + length rest ≤ length bytes

mark-within : (bytes : List ℕ) → length (without_mark bytes) ≤ length bytes
mark-within [] = omega arith
mark-within (a ∷ []) = omega arith
mark-within (a ∷ b ∷ []) = omega arith
mark-within (a ∷ b ∷ c ∷ rest) =
    cond_both (a == 239 && (b == 187 && c == 191)) rest (a ∷ b ∷ c ∷ rest) (λ x. length x ≤ suc (suc (suc (length rest)))) (λ e. omega arith) (λ e. omega arith)

pub reads-nothing : (types : List EventShape) (bytes rest : List ℕ) → rest ≡ without_mark bytes → IsRead types bytes rest 0 (pos 0) []
reads-nothing types bytes rest e = record {
  done = [];
  meant = [];
  cut = ap lines (sym e);
  lines_are = tt;
  items_are = refl;
  last_is = refl;
  count = refl;
  size = omega (arith, mark-within bytes, ap length e);
}

lines-then : (types : List EventShape) (last : ℤ) (done : List (List ℕ)) (meant : List (Option Item)) (line : List ℕ) (m : Option Item) → AreLines types last done meant → IsLine types (last_time last meant) line m
    → AreLines types last (done ++ line ∷ []) (meant ++ m ∷ [])
lines-then types last [] [] line m a h = (h, tt)
lines-then types last [] (n ∷ ns) line m a h = absurd a
lines-then types last (d ∷ ds) [] line m a h = absurd a
lines-then types last (d ∷ ds) (n ∷ ns) line m a h = (a.0, lines-then types (time_after last n) ds ns line m a.1 h)

last-then : (last : ℤ) (meant : List (Option Item)) (m : Option Item) → last_time last (meant ++ m ∷ []) ≡ time_after (last_time last meant) m
last-then last [] m = refl
last-then last (n ∷ ns) m = last-then (time_after last n) ns m

items-then : (meant : List (Option Item)) (m : Option Item) → flat_map option_to_list (meant ++ m ∷ []) ≡ flat_map option_to_list meant ++ option_to_list m
items-then [] m = append-nil (option_to_list m)
items-then (n ∷ ns) m = ap (λ x. option_to_list n ++ x) (items-then ns m) ∙ sym (append_assoc (option_to_list n) (flat_map option_to_list ns) (option_to_list m))

pub reads-line : (types : List EventShape) (bytes rest rest' line : List ℕ) (number : ℕ) (last last' : ℤ) (items items' : List Item) → IsRead types bytes rest number last items → TakesOff rest rest' (Some line)
    → TakesLine {T = Unit {0}} types line (number + 1) last last' items items' (Ok tt) → IsRead types bytes rest' (number + 1) last' items'
reads-line types bytes rest rest' line number last last' items items' h off takes = record {
  done = h.done ++ line ∷ [];
  meant = h.meant ++ takes.0 ∷ [];
  cut = h.cut ∙ ap (λ x. h.done ++ x) off.0 ∙ sym (append_assoc h.done (line ∷ []) (lines rest'));
  lines_are = lines-then types (pos 0) h.done h.meant line takes.0 h.lines_are (subst (λ t. IsLine types t line takes.0) h.last_is takes.1);
  items_are = takes.2 ∙ ap (λ x. x ++ option_to_list takes.0) h.items_are ∙ sym (items-then h.meant takes.0);
  last_is = takes.3 ∙ ap (λ t. time_after t takes.0) h.last_is ∙ sym (last-then (pos 0) h.meant takes.0);
  count = let more = length-append h.done (line ∷ []) in let same = h.count in omega arith;
  size = let size = h.size in let less = off.1 in omega arith;
}

lines-at : (types : List EventShape) (last : ℤ) (ls : List (List ℕ)) (ms : List (Option Item)) (k : ℕ) (line : List ℕ) → AreLines types last ls ms → slice_get ls k ≡ Some line
    → (m : Option Item) × IsLine types (last_time last (take k ms)) line m
lines-at types last [] ms k line a e = absurd (none-some _ e)
lines-at types last (l ∷ ls) [] k line a e = absurd a
lines-at types last (l ∷ ls) (m ∷ ms) zero line a e = (m, rw (same_Some _ _ e) at a.0)
lines-at types last (l ∷ ls) (m ∷ ms) (suc k) line a e = lines-at types (time_after last m) ls ms k line a.1 e

lines-front : (types : List EventShape) (last : ℤ) (ls : List (List ℕ)) (ms : List (Option Item)) (k : ℕ) → AreLines types last ls ms → AreLines types last (take k ls) (take k ms)
lines-front types last [] [] zero a = tt
lines-front types last [] [] (suc k) a = tt
lines-front types last [] (m ∷ ms) k a = absurd a
lines-front types last (l ∷ ls) [] k a = absurd a
lines-front types last (l ∷ ls) (m ∷ ms) zero a = tt
lines-front types last (l ∷ ls) (m ∷ ms) (suc k) a = (a.0, lines-front types (time_after last m) ls ms k a.1)

lines-same : (types : List EventShape) → AreEventTypes types → (last : ℤ) (ls : List (List ℕ)) (ms ns : List (Option Item)) → AreLines types last ls ms → AreLines types last ls ns → ms ≡ ns
lines-same types ok last [] [] [] a b = refl
lines-same types ok last [] [] (n ∷ ns) a b = absurd b
lines-same types ok last [] (m ∷ ms) ns a b = absurd a
lines-same types ok last (l ∷ ls) [] ns a b = absurd a
lines-same types ok last (l ∷ ls) (m ∷ ms) [] a b = absurd b
lines-same types ok last (l ∷ ls) (m ∷ ms) (n ∷ ns) a b =
    let same : m ≡ n = line-same types ok last l m n a.0 b.0 in
    ap (λ x. x ∷ ms) same ∙ ap (λ x. n ∷ x) (lines-same types ok (time_after last n) ls ms ns (subst (λ x. AreLines types (time_after last x) ls ms) same a.1) b.1)

-- a line says something behind whatever the lines before it say
line-behind : (types : List EventShape) → AreEventTypes types → (ls : List (List ℕ)) (ms : List (Option Item)) (k : ℕ) (line : List ℕ) (before : List (Option Item)) → AreLines types (pos 0) ls ms
    → slice_get ls k ≡ Some line → AreLines types (pos 0) (take k ls) before → (m : Option Item) × IsLine types (last_time (pos 0) before) line m
line-behind types ok ls ms k line before a e b =
    let same : take k ms ≡ before = lines-same types ok (pos 0) (take k ls) (take k ms) before (lines-front types (pos 0) ls ms k a) b in
    let m = lines-at types (pos 0) ls ms k line a e in
    (m.0, subst (λ x. IsLine types (last_time (pos 0) x) line m.0) same m.1)

get-front : (xs ys : List (List ℕ)) (k : ℕ) → k < length xs → slice_get (xs ++ ys) k ≡ slice_get xs k
get-front [] ys k lt = absurd (omega arith)
get-front (x ∷ xs) ys zero lt = refl
get-front (x ∷ xs) ys (suc k) lt = get-front xs ys k (omega arith)

get-seam : (xs ys : List (List ℕ)) (y : List ℕ) → slice_get (xs ++ y ∷ ys) (length xs) ≡ Some y
get-seam [] ys y = refl
get-seam (x ∷ xs) ys y = get-seam xs ys y

get-take : (xs : List (List ℕ)) (n k : ℕ) → k < n → slice_get (take n xs) k ≡ slice_get xs k
get-take [] zero k lt = absurd (omega arith)
get-take [] (suc n) k lt = refl
get-take (x ∷ xs) zero k lt = absurd (omega arith)
get-take (x ∷ xs) (suc n) zero lt = refl
get-take (x ∷ xs) (suc n) (suc k) lt = get-take xs n k (omega arith)

take-seam : (xs ys : List (List ℕ)) → take (length xs) (xs ++ ys) ≡ xs
take-seam [] ys = refl
take-seam (x ∷ xs) ys = ap (λ z. x ∷ z) (take-seam xs ys)

take-front : (xs ys : List (List ℕ)) (k : ℕ) → k < length xs → take k (xs ++ ys) ≡ take k xs
take-front [] ys k lt = absurd (omega arith)
take-front (x ∷ xs) ys zero lt = refl
take-front (x ∷ xs) ys (suc k) lt = ap (λ z. x ∷ z) (take-front xs ys k (omega arith))

take-fewer : (xs : List (List ℕ)) (n k : ℕ) → k < n → take k (take n xs) ≡ take k xs
take-fewer [] zero k lt = absurd (omega arith)
take-fewer [] (suc n) k lt = refl
take-fewer (x ∷ xs) zero k lt = absurd (omega arith)
take-fewer (x ∷ xs) (suc n) zero lt = refl
take-fewer (x ∷ xs) (suc n) (suc k) lt = ap (λ z. x ∷ z) (take-fewer xs n k (omega arith))

-- all lines are read
pub gives-items : (types : List EventShape) (bytes rest rest' : List ℕ) (number : ℕ) (last : ℤ) (items : List Item) → AreEventTypes types → IsRead types bytes rest number last items → TakesOff rest rest' None
    → GivesItems types bytes (Ok items)
gives-items types bytes rest rest' number last items ok h off =
    let all : lines_of bytes ≡ h.done = h.cut ∙ ap (λ x. h.done ++ lines x) off ∙ append-nil h.done in
    let are : AreLines types (pos 0) (lines_of bytes) h.meant = rw all h.lines_are in (
      (h.meant, are, h.items_are),
      (λ others a. a.2 ∙ ap (flat_map option_to_list) (lines-same types ok (pos 0) (lines_of bytes) a.0 h.meant a.1 are) ∙ sym h.items_are),
      (λ n r. let m = line-behind types ok (lines_of bytes) h.meant r.0 r.1 r.4 are r.3 r.5 in r.6 m.0 m.1),
    )

-- two refused lines of one file are one
refused-same : (types : List EventShape) → AreEventTypes types → (whole done ls : List (List ℕ)) (line : List ℕ) (meant : List (Option Item)) (k : ℕ) (other : List ℕ) (before : List (Option Item)) → whole ≡ done ++ line ∷ ls
    → AreLines types (pos 0) done meant → ((m : Option Item) → IsLine types (last_time (pos 0) meant) line m → ⊥) → slice_get whole k ≡ Some other → AreLines types (pos 0) (take k whole) before
    → ((m : Option Item) → IsLine types (last_time (pos 0) before) other m → ⊥) → k ≡ length done
refused-same types ok whole done ls line meant k other before e a none at b none' = elim (cases_order k (length done)) [
  | inl same ↦ same
  | inr apart ↦ elim apart [
    | inl lt ↦
        let there : slice_get done k ≡ Some other = sym (get-front done (line ∷ ls) k lt) ∙ ap (λ x. slice_get x k) (sym e) ∙ at in
        let front : take k whole ≡ take k done = ap (take k) e ∙ take-front done (line ∷ ls) k lt in
        let m = line-behind types ok done meant k other before a there (subst (λ x. AreLines types (pos 0) x before) front b) in
        absurd (none' m.0 m.1)
    | inr gt ↦
        let there : slice_get (take k whole) (length done) ≡ Some line = get-take whole k (length done) gt ∙ ap (λ x. slice_get x (length done)) e ∙ get-seam done ls line in
        let front : take (length done) (take k whole) ≡ done = take-fewer whole k (length done) gt ∙ ap (take (length done)) e ∙ take-seam done (line ∷ ls) in
        let m = line-behind types ok (take k whole) before (length done) line meant b there (subst (λ x. AreLines types (pos 0) x meant) (sym front) a) in
        absurd (none m.0 m.1)
  ]
]

-- a line is refused
gives-line : (types : List EventShape) → AreEventTypes types → (bytes rest rest' line : List ℕ) (number n : ℕ) (last : ℤ) (items : List Item) → IsRead types bytes rest number last items → TakesOff rest rest' (Some line) → n ≡ number + 1
    → ((m : Option Item) → IsLine types last line m → ⊥) → GivesItems types bytes (Err (Line n))
gives-line types ok bytes rest rest' line number n last items h off is refused =
    let none : (m : Option Item) → IsLine types (last_time (pos 0) h.meant) line m → ⊥ = subst (λ t. (m : Option Item) → IsLine types t line m → ⊥) h.last_is refused in
    let whole : lines_of bytes ≡ h.done ++ line ∷ lines rest' = h.cut ∙ ap (λ x. h.done ++ x) off.0 in
    let at : slice_get (lines_of bytes) (length h.done) ≡ Some line = ap (λ x. slice_get x (length h.done)) whole ∙ get-seam h.done (lines rest') line in
    let front : take (length h.done) (lines_of bytes) ≡ h.done = ap (take (length h.done)) whole ∙ take-seam h.done (line ∷ lines rest') in
    let are : AreLines types (pos 0) (take (length h.done) (lines_of bytes)) h.meant = subst (λ x. AreLines types (pos 0) x h.meant) (sym front) h.lines_are in
    let count = h.count in (
      (length h.done, line, omega arith, at, h.meant, are, none),
      (λ m r. let same = refused-same types ok (lines_of bytes) h.done (lines rest') line h.meant r.0 r.1 r.4 whole h.lines_are none r.3 r.5 r.6 in let number = r.2 in omega arith),
      (λ others a. let m = line-behind types ok (lines_of bytes) a.0 (length h.done) line h.meant a.1 at are in none m.0 m.1),
    )

pub gives-fault : (types : List EventShape) (bytes rest rest' line : List ℕ) (number : ℕ) (last last' : ℤ) (items items' : List Item) (f : LineFault) (r : Result (List Item) LineFault) → AreEventTypes types
    → IsRead types bytes rest number last items → TakesOff rest rest' (Some line) → TakesLine {T = Unit {0}} types line (number + 1) last last' items items' (Err f) → IsErrAnd r (λ e. e ≡ f) → GivesItems types bytes r
gives-fault types bytes rest rest' line number last last' items items' (Line n) r ok h off takes is =
    let p = err_from_is_err_and r is in rw (p.1, p.2) (gives-line types ok bytes rest rest' line number n last items h off takes.0 takes.1)
gives-fault types bytes rest rest' line number last last' items items' Memory r ok h off takes is = let p = err_from_is_err_and r is in rw (p.1, p.2) tt
