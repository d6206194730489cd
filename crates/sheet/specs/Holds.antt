-- What a sheet holds. Assumes nothing.
use Rattle.sheet.specs.Content.{Content}
use Rattle.sheet.specs.Store.{store_of, content_of}
use Rattle.sheet.specs.declared.sheets.Sheet.{Sheet}

abbrev pub holds : Sheet → Content
holds s = content_of (store_of s.page)
