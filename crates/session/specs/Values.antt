-- What a value of the code's type `Setup` stands for. Assumes nothing: this is a definition.
use Rattle.taps.specs.Values.{book_of}
use Rattle.session.specs.Layout.{Opened}
use Rattle.session.specs.declared.setup.Setup.{Setup}

abbrev pub setup_of : Setup → Opened
setup_of s = record { book = book_of s.book; limit = s.limit }
