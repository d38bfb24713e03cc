use Rattle.std.proofs.Common.{◌∙◌, sym, inl, inr}
use Rattle.image_store.proofs.store.pieces_for.Goals as goal

pub returns-then-not-are_names_for-clause-refused : goal.returns-then-not-are_names_for-clause-refused
returns-then-not-are_names_for-clause-refused g c = λ is. inl (sym c.are_names_for.ensures ∙ c.if-not-are_names_for.true)

pub returns-then-has_double-clause-refused : goal.returns-then-has_double-clause-refused
returns-then-has_double-clause-refused g c = λ is. inr (c.has_double.ensures.yes c.if-has_double.true)
