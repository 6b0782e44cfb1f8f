-- Worked examples of words and their commands, which the checker computes.
use Rattle.std.proofs.Common.{◌≡◌, [], ◌∷◌, refl}
use Rattle.std.specs.Prelude.{Some, None, codes}
use Rattle.spectro_words.specs.Commands.{compare, demo, eval, price, rewrite, size}
use Rattle.spectro_words.specs.Reading.{command}

evaluates : command (codes "eval" ∷ codes "tt" ∷ codes "z.aut" ∷ []) ≡ Some (eval (codes "tt") (codes "z.aut") None)
evaluates = refl

evaluates_with_weights :
    command (codes "eval" ∷ codes "tt" ∷ codes "z.aut" ∷ codes "--weights" ∷ codes "w" ∷ []) ≡ Some (eval (codes "tt") (codes "z.aut") (Some (codes "w")))
evaluates_with_weights = refl

rewrites : command (codes "rewrite" ∷ codes "z.aut" ∷ []) ≡ Some (rewrite (codes "z.aut"))
rewrites = refl

counts_within_the_default : command (codes "size" ∷ codes "a.aut" ∷ codes "b.aut" ∷ []) ≡ Some (size (codes "a.aut") (codes "b.aut") 200000)
counts_within_the_default = refl

counts_within_a_limit :
    command (codes "size" ∷ codes "a.aut" ∷ codes "b.aut" ∷ codes "--limit" ∷ codes "0001000000" ∷ []) ≡ Some (size (codes "a.aut") (codes "b.aut") 1000000)
counts_within_a_limit = refl

compares : command (codes "compare" ∷ codes "a.aut" ∷ codes "b.aut" ∷ []) ≡ Some (compare (codes "a.aut") (codes "b.aut") None None 200000)
compares = refl

compares_with_all_options :
    command (codes "compare" ∷ codes "a.aut" ∷ codes "b.aut" ∷ codes "--weights" ∷ codes "w" ∷ codes "--notions" ∷ codes "n" ∷ codes "--limit" ∷ codes "7" ∷ [])
    ≡ Some (compare (codes "a.aut") (codes "b.aut") (Some (codes "w")) (Some (codes "n")) 7)
compares_with_all_options = refl

compares_with_the_last_option_alone :
    command (codes "compare" ∷ codes "a.aut" ∷ codes "b.aut" ∷ codes "--limit" ∷ codes "8" ∷ []) ≡ Some (compare (codes "a.aut") (codes "b.aut") None None 8)
compares_with_the_last_option_alone = refl

shows_the_greatest_demo : command (codes "demo" ∷ codes "9000" ∷ []) ≡ Some (demo 9000)
shows_the_greatest_demo = refl

shows_a_demo_of_ten_digits : command (codes "demo" ∷ codes "0000000200" ∷ []) ≡ Some (demo 200)
shows_a_demo_of_ten_digits = refl

-- a word in a place is taken as it is
place_like_an_option : command (codes "price" ∷ codes "--weights" ∷ []) ≡ Some (price (codes "--weights") None)
place_like_an_option = refl

place_before_its_option :
    command (codes "price" ∷ codes "--weights" ∷ codes "--weights" ∷ codes "--weights" ∷ []) ≡ Some (price (codes "--weights") (Some (codes "--weights")))
place_before_its_option = refl

-- everything else is no command
no_words : command [] ≡ None
no_words = refl

no_verb : command (codes "tt" ∷ []) ≡ None
no_verb = refl

empty_place : command (codes "eval" ∷ codes "tt" ∷ []) ≡ None
empty_place = refl

one_word_more : command (codes "rewrite" ∷ codes "z.aut" ∷ codes "z.aut" ∷ []) ≡ None
one_word_more = refl

option_without_a_word : command (codes "price" ∷ codes "tt" ∷ codes "--weights" ∷ []) ≡ None
option_without_a_word = refl

option_before_the_places : command (codes "eval" ∷ codes "--weights" ∷ codes "w" ∷ codes "tt" ∷ codes "z.aut" ∷ []) ≡ None
option_before_the_places = refl

option_of_another_form : command (codes "price" ∷ codes "tt" ∷ codes "--limit" ∷ codes "1" ∷ []) ≡ None
option_of_another_form = refl

option_twice : command (codes "price" ∷ codes "tt" ∷ codes "--weights" ∷ codes "w" ∷ codes "--weights" ∷ codes "w" ∷ []) ≡ None
option_twice = refl

limit_of_nothing : command (codes "size" ∷ codes "a.aut" ∷ codes "b.aut" ∷ codes "--limit" ∷ codes "0" ∷ []) ≡ None
limit_of_nothing = refl

limit_above_the_greatest : command (codes "size" ∷ codes "a.aut" ∷ codes "b.aut" ∷ codes "--limit" ∷ codes "1000001" ∷ []) ≡ None
limit_above_the_greatest = refl

limit_of_eleven_digits : command (codes "size" ∷ codes "a.aut" ∷ codes "b.aut" ∷ codes "--limit" ∷ codes "00000000001" ∷ []) ≡ None
limit_of_eleven_digits = refl

one_place_of_two : command (codes "compare" ∷ codes "z.aut" ∷ []) ≡ None
one_place_of_two = refl

options_in_another_order :
    command (codes "compare" ∷ codes "a.aut" ∷ codes "b.aut" ∷ codes "--notions" ∷ codes "n" ∷ codes "--weights" ∷ codes "w" ∷ []) ≡ None
options_in_another_order = refl

demo_of_nothing : command (codes "demo" ∷ codes "0" ∷ []) ≡ None
demo_of_nothing = refl

demo_above_the_greatest : command (codes "demo" ∷ codes "9001" ∷ []) ≡ None
demo_above_the_greatest = refl

demo_of_eleven_digits : command (codes "demo" ∷ codes "00000000200" ∷ []) ≡ None
demo_of_eleven_digits = refl

demo_of_no_number : command (codes "demo" ∷ codes "+200" ∷ []) ≡ None
demo_of_no_number = refl

demo_with_a_limit : command (codes "demo" ∷ codes "200" ∷ codes "--limit" ∷ codes "1" ∷ []) ≡ None
demo_with_a_limit = refl
