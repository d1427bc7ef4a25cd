use Rattle.std.proofs.Common.{◌≡◌, ◌≤◌, ◌+◌, Bool, true, false, length, take, drop, Some, None, refl, ap, ◌∙◌, subst}
use Rattle.std.specs.Bool.{then_some}
use Rattle.std.specs.Option.{option_map}
use Rattle.taps.specs.Readings.{pick}
use Rattle.taps.specs.Values.{book_of}
use Rattle.onsets.specs.Laws.{sound_words}
use Rattle.session.specs.Layout.{checked, half, own, taps_words}
use Rattle.session.specs.Values.{setup_of}
use Rattle.session.proofs.Called.{enough_found, none_enough}
use Rattle.session.proofs.find_desk.Goals as goal

picked_some : {A B : Type 0} (f : A → B) (t : Bool) (x : A) → option_map f (then_some t x) ≡ pick t (Some (f x)) None
picked_some f true x = refl
picked_some f false x = refl

pub returns-in_err-setup : goal.returns-in_err-setup
returns-in_err-setup c = ap (option_map setup_of) c.from_residual.ensures ∙ ap (λ o. checked o c.args.left.now c.args.right.now) c.in_err-setup.ensures

pub returns-in_err-half : goal.returns-in_err-half
returns-in_err-half c =
    ap (option_map setup_of) c.from_residual-in_err-half.ensures ∙ none_enough c.args.left.now c.args.right.now (setup_of c.in_ok-setup.setup) c.half.result c.in_ok-setup.ensures c.half.ensures c.in_err-half.ensures

pub returns : goal.returns
returns c =
    let left = c.args.left.now in
    let setup = c.in_ok-setup.setup in
    let b = book_of setup.book in
    let most = setup.limit in
    let size : c.in_ok-half.half ≡ half b most = c.in_ok-half.ensures.0 ∙ c.half.ensures in
    let words : c.split_at-2.result.0.now ≡ taps_words most (own b most left) = c.split_at-2.ensures.front ∙ ap (take (most + 1)) (c.split_at.ensures.back ∙ ap (λ n. drop 39 (take n left)) size) in
    let left_fits = subst (λ n. n ≤ length left) c.half.ensures c.in_ok-half.ensures.1 in
    let right_fits = subst (λ n. n ≤ length c.args.right.now) c.half.ensures c.in_ok-half.ensures.2 in
    ap (option_map setup_of) (c.then_some.ensures ∙ ap (λ t. then_some t setup) (c.is_sound.ensures ∙ ap sound_words words))
    ∙ picked_some setup_of (sound_words (taps_words most (own b most left))) setup ∙ enough_found left c.args.right.now (setup_of setup) c.in_ok-setup.ensures left_fits right_fits
