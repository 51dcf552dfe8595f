-- The picks of a file, line by line.
use Rattle.std.proofs.Common.{◌≡◌, ℕ, ◌+◌, ◌≤◌, ◌∷◌, ◌++◌, List, [], length, map, Option, Some, None, Result, Ok, Err, refl, sym, ◌∙◌, ap, arith, append-nil, append_assoc, length-append, IsErrAnd}
use Rattle.std.specs.List.{flat_map}
use Rattle.std.specs.Option.{option_to_list}
use Rattle.std.specs.Str.Lines.{lines}
use Rattle.std.proofs.lemmas.Result.{err_from_is_err_and}
use Rattle.std.proofs.lemmas.List.{map-append}
use Rattle.file_lines.specs.Lines.{TakesOff, lines_of, without_mark}
use Rattle.schedule_picks.specs.declared.line.Pick.{Pick}
use Rattle.schedule_picks.specs.declared.fault.PicksFault.{PicksFault}
use Rattle.schedule_picks.specs.declared.fault.PicksFault.TheVariants.{Line, Memory}
use Rattle.schedule_picks.specs.Picks.{ArePicks, GivesPicks, pick_in}
use Rattle.schedule_picks.specs.Steps.{TakesLine}

-- the lines before the rest are read
pub record IsRead (contexts : ℕ) (bytes rest : List ℕ) (number : ℕ) (picks : List Pick) : Type 0 where
  pub done : List (List ℕ)
  pub cut : lines_of bytes ≡ done ++ lines rest
  pub right : ArePicks contexts done picks
  pub count : number ≡ length done
  pub size : number + length rest ≤ length bytes

pub reads_nothing : (contexts : ℕ) (bytes rest : List ℕ) → rest ≡ without_mark bytes → length rest ≤ length bytes → IsRead contexts bytes rest 0 []
reads_nothing contexts bytes rest e within = record { done = []; cut = ap lines (sym e); right = ([], refl, refl); count = refl; size = omega arith }

flat-then : (meant : List (Option Pick)) (m : Option Pick) → flat_map option_to_list (meant ++ m ∷ []) ≡ flat_map option_to_list meant ++ option_to_list m
flat-then [] m = append-nil (option_to_list m)
flat-then (n ∷ ns) m = ap (λ x. option_to_list n ++ x) (flat-then ns m) ∙ sym (append_assoc (option_to_list n) (flat_map option_to_list ns) (option_to_list m))

picks-then : (contexts : ℕ) (done : List (List ℕ)) (line : List ℕ) (meant : List (Option Pick)) (m : Option Pick) → map (pick_in contexts) done ≡ map Some meant → pick_in contexts line ≡ Some m
    → map (pick_in contexts) (done ++ line ∷ []) ≡ map Some (meant ++ m ∷ [])
picks-then contexts done line meant m all is = map-append (pick_in contexts) done (line ∷ []) ∙ ap (λ x. x ++ pick_in contexts line ∷ []) all ∙ ap (λ x. map Some meant ++ x ∷ []) is ∙ sym (map-append Some meant (m ∷ []))

pub reads_line : (contexts : ℕ) (bytes rest rest' line : List ℕ) (number : ℕ) (picks picks' : List Pick) → IsRead contexts bytes rest number picks → TakesOff rest rest' (Some line)
    → TakesLine {T = Unit {0}} contexts line (number + 1) picks picks' (Ok tt) → IsRead contexts bytes rest' (number + 1) picks'
reads_line contexts bytes rest rest' line number picks picks' h off takes = record {
  done = h.done ++ line ∷ [];
  cut = h.cut ∙ ap (λ x. h.done ++ x) off.0 ∙ sym (append_assoc h.done (line ∷ []) (lines rest'));
  right = (h.right.0 ++ takes.0 ∷ [], picks-then contexts h.done line h.right.0 takes.0 h.right.1 takes.1, takes.2 ∙ ap (λ x. x ++ option_to_list takes.0) h.right.2 ∙ sym (flat-then h.right.0 takes.0));
  count = let more = length-append h.done (line ∷ []) in let same = h.count in omega arith;
  size = let size = h.size in let less = off.1 in omega arith;
}

-- all lines are read
pub gives_picks : (contexts : ℕ) (bytes rest rest' : List ℕ) (number : ℕ) (picks : List Pick) → IsRead contexts bytes rest number picks → TakesOff rest rest' None → GivesPicks contexts bytes (Ok picks)
gives_picks contexts bytes rest rest' number picks h off =
    let all : lines_of bytes ≡ h.done = h.cut ∙ ap (λ x. h.done ++ lines x) off ∙ append-nil h.done in
    rw all h.right

-- a line isn't in its form
pub gives_fault : (contexts : ℕ) (bytes rest rest' line : List ℕ) (number : ℕ) (picks picks' : List Pick) (f : PicksFault) (r : Result (List Pick) PicksFault) → IsRead contexts bytes rest number picks → TakesOff rest rest' (Some line)
    → TakesLine {T = Unit {0}} contexts line (number + 1) picks picks' (Err f) → IsErrAnd r (λ e. e ≡ f) → GivesPicks contexts bytes r
gives_fault contexts bytes rest rest' line number picks picks' (Line n) r h off takes is =
    let p = err_from_is_err_and r is in
    rw (p.1, p.2) (record {
      before = h.done;
      line = line;
      behind = lines rest';
      cut = h.cut ∙ ap (λ x. h.done ++ x) off.0;
      count = takes.0 ∙ ap (λ k. k + 1) h.count;
      right = (picks, h.right);
      wrong = takes.1;
    })
gives_fault contexts bytes rest rest' line number picks picks' Memory r h off takes is = let p = err_from_is_err_and r is in rw (p.1, p.2) tt
