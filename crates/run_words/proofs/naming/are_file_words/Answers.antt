use Rattle.std.proofs.Common.{rules, tests, string_bytes, sym, ◌∙◌}
use Rattle.std.proofs.lemmas.Iterator.{YieldsList-from_slice}
use Rattle.std.proofs.lemmas.Iterator.Search.{all_from_yields_List}
use Rattle.std.proofs.lemmas.List.Folds.{list_all-map}
use Rattle.run_words.specs.Words.{is_file_word}
use Rattle.run_words.proofs.naming.are_file_words.Goals as goal

-- the test of each word, over the bytes of the words
pub returns : goal.returns
returns c =
    all_from_yields_List (λ word. is_file_word (string_bytes word)) _ _ c.all.result c.all.ensures.ran (YieldsList-from_slice c.args.words.now (cc)) (λ x b q k. search (rules, tests))
    ∙ sym (list_all-map is_file_word string_bytes c.args.words.now)
