use Rattle.std.proofs.Common.{◌≡◌, ◌∙◌, ◌*◌, [], false, drop, get_or, sym, ap, arith}
use Rattle.spectro_eval.specs.Rows.{bit_of}
use Rattle.spectro_eval.proofs.Tables.{is_place, told_bit}
use Rattle.spectro_eval.proofs.truth.Truth.at.Goals as goal

pub row_at-requires : goal.row_at-requires
row_at-requires c =
    let place = is_place c.self.inside.states c.self.inside.rows.items c.args.node c.args.state (rw c.self.view_is c.requires.node)
    (rw c.self.view_is c.requires.state) in
    rw (c.words_of.ensures, c.deref.ensures.value) place.begins

pub bit_of-requires : goal.bit_of-requires
bit_of-requires c =
    let place = is_place c.self.inside.states c.self.inside.rows.items c.args.node c.args.state (rw c.self.view_is c.requires.node)
    (rw c.self.view_is c.requires.state) in
    omega (arith, place.within, c.row_at.ensures.wide, c.words_of.ensures)

pub returns : goal.returns
returns c = record {
  value = value;
  truth = λ system nodes told. told_bit system nodes c.args.self.now c.args.node c.args.state c.bit_of.result told
      c.requires.node c.requires.state value;
}
  where
    value : c.bit_of.result ≡ get_or (get_or c.args.self.now c.args.node []) c.args.state false
    value =
        let place = is_place c.self.inside.states c.self.inside.rows.items c.args.node c.args.state (rw c.self.view_is c.requires.node)
        (rw c.self.view_is c.requires.state) in
        let row = c.row_at.ensures.value ∙ ap (λ rows. drop (c.args.node * c.words_of.result) rows) c.deref.ensures.value
        ∙ ap (λ words. drop (c.args.node * words) c.self.inside.rows.items) c.words_of.ensures in
        c.bit_of.ensures ∙ ap (λ row. bit_of row c.args.state) row ∙ sym place.value
        ∙ ap (λ rows. get_or (get_or rows c.args.node []) c.args.state false) c.self.view_is
