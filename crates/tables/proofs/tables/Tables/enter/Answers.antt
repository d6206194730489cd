use Rattle.std.proofs.Common.{rules, sym, refl}
use Rattle.tables.proofs.Laws.{tried, refused}
use Rattle.tables.specs.Book.{book_of}
use Rattle.tables.proofs.tables.Tables.enter.Goals as goal

pub returns-then-is_err : goal.returns-then-is_err
returns-then-is_err c =
    let (x, y, z) = refused (book_of c.args.self.now) c.args.text.now refl refl c.build-entered.result (book_of c.build-entered.new.self) (book_of c.undo.new.self) c.mark-mark.result (sym c.if-is_err.ensures.value) c.undo.ensures c.mark-mark.ensures.book c.in_ok-check.ensures c.build-entered.ensures in
    record { steps = x; law = y; kept = z }

pub returns-else-is_err : goal.returns-else-is_err
returns-else-is_err c =
    let (x, y) = tried (book_of c.args.self.now) c.args.text.now refl refl c.build-entered.result (book_of c.build-entered.new.self) (sym c.if-is_err.ensures.value) refl refl c.build-entered.ensures in
    record { steps = x; law = y; kept = search rules }
