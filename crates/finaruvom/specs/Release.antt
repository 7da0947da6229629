-- What the library says of itself: its version, and the layout of its books.
use Rattle.machine.specs.Book.{layout}
use Rattle.finaruvom.specs.declared.Version.{Version}

abbrev pub released : Version
released = record { major = 0; minor = 18; patch = 0; layout = layout }
