pub mod RecordLaws  -- the bytes of one record
pub mod EncodingLaws  -- those of a sheet, and how they are read
pub mod AcceptedLaws  -- they are accepted
pub mod SheetLaws  -- the places of a sheet that is read
pub mod OwnLaws  -- a sheet is the bytes of what it lists
pub mod BytesLaws  -- it is made of bytes
